-- What a call put into a lent buffer lies in it: the text after k steps, the row of a text, the text of a row.
use Prim.Native.Nat.{ℕ, ◌≤◌}
use native.Mathlib.Omega.{arith}
use mathlib.Core.List.{List}
use lib.ListN.{length, drop, length-append}
use Rattle.l1.specs.Store.{Store}
use Rattle.l1.specs.Text.{text}
use Rattle.stored.specs.Answers.{wrote, Writes, text_wrote}
use Rattle.stored.specs.Stored.{stored}
use Rattle.text_form.specs.Reading.{taken, Reads, read_takes}
use Rattle.text_form.specs.Showing.{shown, Shows, show_writes}

pub wrote_in : {b : List ℕ} {s : Store} {k n T : ℕ} {buffer buffer' : List ℕ} → Writes b s k buffer (wrote n T) buffer' → n ≤ length buffer'
wrote_in {buffer = buffer} (text_wrote {e' = e'} none h y) = omega (arith, length-append (text e') (drop (length (text e')) buffer))

pub taken_in : {m : ℕ} {t : List ℕ} {n : ℕ} {room room' : List ℕ} → Reads m t room (taken n) room' → n ≤ length room'
taken_in {m = m} {room = room} (read_takes {e = e} can h fits) = omega (arith, length-append (stored m e) (drop (length (stored m e)) room))

pub shown_in : {b : List ℕ} {n : ℕ} {buffer buffer' : List ℕ} → Shows b buffer (shown n) buffer' → n ≤ length buffer'
shown_in {buffer = buffer} (show_writes {e = e} none h) = omega (arith, length-append (text e) (drop (length (text e)) buffer))
