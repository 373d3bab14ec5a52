-- The routine that is read stands in the lent room.
use Prim.Native.Nat.{ℕ, ◌≤◌}
use native.Mathlib.Omega.{arith}
use mathlib.Core.List.{List}
use lib.ListN.{length, length-append}
use Rattle.text_form.specs.Reading.{taken, Reads, read_takes}

pub taken_fits : {m : ℕ} {t room room' : List ℕ} {n : ℕ} → Reads m t room (taken n) room' → n ≤ length room'
taken_fits (read_takes s q l) = simp length-append (omega arith)
