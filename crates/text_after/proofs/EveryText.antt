-- The text answers every list of bytes with every store, number of steps and buffer; with `writes_unique` there is exactly one answer.
use Prim.Native.Nat.{ℕ, ◌≤◌}
use native.Mathlib.Decide.{dec_le}
use native.Mathlib.Omega.{arith}
use mathlib.Core.Logic.{⊎_elim}
use mathlib.Core.List.{List}
use lib.ListN.{length}
use borrow.Author.Tests.{leb-true}
use Rattle.l1.specs.Store as L
use Rattle.l1.specs.Run.{Answer, answer, Yields}
use Rattle.l1.specs.Text.{text}
use Rattle.l1.proofs.Outcomes.{some_answer}
use Rattle.stored.specs.Refusals.{locations}
use Rattle.stored.specs.Answers.{Wrote, Writes}
use Rattle.routine.specs.Open.{root_of}
use Rattle.checker.specs.declared.admission.Lent.TheVariants.{Store}
use Rattle.checker.proofs.EveryRow.{Admitted, every_row}
use Rattle.text_after.specs.Shows.{too_long, in_room}
use Rattle.text_after.proofs.Showing.{shown_whole, run_refused}

module _ (b : List ℕ) (s : L.Store) (k : ℕ) (buffer : List ℕ) where
  abbrev Answered : Type 0
  Answered = (a : Wrote) × (buffer' : List ℕ) × Writes b s k buffer a buffer'

  shows : Admitted b (Store (length s)) → Answered
  shows (p, ok, e) = by_answer (some_answer k c ok.typed)
    where
      c : locations b ≤ length s
      c = leb-true (locations b) (length s) e

      by_answer : (a : Answer) × Yields k (root_of b) s a → Answered
      by_answer (answer o T K e' s', y) = by_room (dec_le (length (text e')) (length buffer))
        where
          by_room : Dec (length (text e') ≤ length buffer) → Answered
          by_room (yes l) = (_, _, shown_whole ok c (in_room y l))
          by_room (no n) = (_, _, shown_whole ok c (too_long y (omega arith)))

  pub every_text : Answered
  every_text = ⊎_elim (λ (r, f). (_, _, run_refused k f)) shows (every_row b (Store (length s)))
