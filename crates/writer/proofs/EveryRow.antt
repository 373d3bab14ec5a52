-- The writer answers every list of bytes with every buffer; with `shows_unique` there is exactly one answer.
use Prim.Native.Nat.{ℕ, ◌≤◌}
use native.Mathlib.Decide.{dec_le}
use native.Mathlib.Omega.{arith}
use mathlib.Core.List.{List}
use lib.ListN.{length}
use Rattle.l1.specs.Syntax.{Expr}
use Rattle.l1.specs.Text.{text}
use Rattle.stored.specs.Refusals.{Holds}
use Rattle.stored.specs.Answers.{Opened, Opens, Opening, open_refuses, open_opens}
use Rattle.text_form.specs.Showing.{Shown, Shows}
use Rattle.text_form.proofs.AnyShown.{opening_refused, long_refused, fits_shown}
use Rattle.opener.proofs.EveryOpening.{every_opening}

module _ (b buffer : List ℕ) where
  abbrev Answered : Type 0
  Answered = (a : Shown) × (buffer' : List ℕ) × Shows b buffer a buffer'

  by_room : {e : Expr} → Opens b → Holds b e → Dec (length (text e) ≤ length buffer) → Answered
  by_room ok h (yes l) = (_, _, fits_shown ok h buffer l)
  by_room ok h (no n) = (_, _, long_refused ok h buffer (omega arith))

  by_opening : {a : Opened} → Opening b a → Answered
  by_opening (open_refuses f) = (_, _, opening_refused (open_refuses f))
  by_opening (open_opens {e} ok h) = by_room ok h (dec_le (length (text e)) (length buffer))

  pub every_row : Answered
  every_row = by_opening (every_opening b).1
