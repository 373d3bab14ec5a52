-- What the text of a run's moment comes to in a lent buffer: it is written where there is room, and else only measured.
use Rattle.std.specs.Prelude.{ℕ, ◌≤◌, ◌<◌, List, ◌++◌, length, drop}
use Rattle.l1.specs.Syntax.{Expr}
use Rattle.l1.specs.Store.{Store}
use Rattle.l1.specs.Run.{Outcome, answer, Yields}
use Rattle.l1.specs.Text.{text}
use Rattle.stored.specs.Stages.{no_with}
use Rattle.stored.specs.Answers.{Wrote, wrote}
use Rattle.routine.specs.Open.{root_of}

-- after k steps from the store s
pub data Shows (b : List ℕ) (s : Store) (k : ℕ) (buffer : List ℕ) : Wrote → List ℕ → Type 0 where
  too_long : {e : Expr} {s' : Store} {o : Outcome} {T K : ℕ}
      → Yields k (root_of b) s (answer o T K e s') → length buffer < length (text e)
      → Shows b s k buffer (Wrote.refuses (no_with 32 (length (text e)))) buffer
  in_room : {e : Expr} {s' : Store} {o : Outcome} {T K : ℕ}
      → Yields k (root_of b) s (answer o T K e s') → length (text e) ≤ length buffer
      → Shows b s k buffer (wrote (length (text e)) T) (text e ++ drop (length (text e)) buffer)
