-- The contract of `write` leaves one answer and one buffer: any two that it allows for the same bytes and buffer are the same.
use Prim.Native.Nat.{ℕ}
use mathlib.Core.Path.{◌≡◌, ap}
use mathlib.Core.List.{List}
use Rattle.std.specs.Prelude.{Result, Ok, Err}
use Rattle.text_form.specs.Showing.{Shows}
use Rattle.text_form.proofs.OneShowing.{shows_unique}
use Rattle.routine.specs.Says.{refusal_of}
use Rattle.routine.specs.declared.Refusal.{Refusal}
use Rattle.routine.proofs.RefusalNames.{refusal_unique}
use Rattle.writer.specs.Says.{shown_of}

written_unique : (r r' : Result ℕ Refusal) → shown_of r ≡ shown_of r' → r ≡ r'
written_unique (Err r) (Err r') e = let q : refusal_of r ≡ refusal_of r' = cc in ap Err (refusal_unique q)
written_unique (Err r) (Ok n) e = cc
written_unique (Ok n) (Err r) e = cc
written_unique (Ok n) (Ok n') e = let q : n ≡ n' = cc in ap Ok q

pub one_written : {b buffer buffer₁ buffer₂ : List ℕ} {r r' : Result ℕ Refusal}
    → Shows b buffer (shown_of r) buffer₁ → Shows b buffer (shown_of r') buffer₂ → (r ≡ r') × (buffer₁ ≡ buffer₂)
one_written {b} {r = r} {r' = r'} x x' = let (q, w) = shows_unique b x x' in (written_unique r r' q, w)
