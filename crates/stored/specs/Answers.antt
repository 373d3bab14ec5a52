-- 01, "What an accepted routine tells": what opening, the check, the run and the text answer to every list of bytes, and what they leave in
-- the lent store and buffer.
use Rattle.std.specs.Prelude.{ℕ, List, ◌++◌, length, drop}
use Rattle.l1.specs.Syntax.{Expr, Ty}
use Rattle.l1.specs.Store.{Store}
use Rattle.l1.specs.Typing.{◌⊢◌∶◌}
use Rattle.l1.specs.Run.{Outcome, answer, Yields}
use Rattle.l1.specs.Measures.{working}
use Rattle.l1.specs.Sets.{reads, writes, word}
use Rattle.l1.specs.Text.{text}
use Rattle.stored.specs.Stages.{Refusal, Passes, First}
use Rattle.stored.specs.Refusals.{locations, count, env, Holds, opening, checking, running, texting}

-- opening: a refusal of 1 to 9, or m and n
pub data Opened : Type 0 where
  refuses : Refusal → Opened
  opens : ℕ → ℕ → Opened

-- no refusal of 1 to 9 is given
pub record Opens (b : List ℕ) : Type 0 where
  pub passes : Passes (opening b)

pub data Opening (b : List ℕ) : Opened → Type 0 where
  open_refuses : {r : Refusal} → First (opening b) r → Opening b (refuses r)
  open_opens : {e : Expr} → Opens b → Holds b e → Opening b (opens (locations b) (count b))

-- the check: a refusal, or the type, W, the read set and the write set
pub data Checked : Type 0 where
  refuses : Refusal → Checked
  tells : Ty → ℕ → ℕ → ℕ → Checked

pub data Checks (b : List ℕ) : Checked → Type 0 where
  check_refuses : {r : Refusal} → First (checking b) r → Checks b (refuses r)
  check_tells : {e : Expr} {T : Ty}
      → Passes (checking b) → Holds b e → env b ⊢ e ∶ T
      → Checks b (tells T (working e) (word (reads e)) (word (writes e)))

-- the run: a refusal, or the outcome with T and K; and the store at its end
pub data Ran : Type 0 where
  refuses : Refusal → Ran
  ran : Outcome → ℕ → ℕ → Ran

pub data Runs (b : List ℕ) (s : Store) (f : ℕ) : Ran → Store → Type 0 where
  run_refuses : {r : Refusal} → First (running b s) r → Runs b s f (refuses r) s
  run_yields : {e e' : Expr} {s' : Store} {o : Outcome} {T K : ℕ}
      → Passes (running b s) → Holds b e → Yields f e s (answer o T K e' s')
      → Runs b s f (ran o T K) s'

-- the text after k steps: a refusal, or the length and T; and the buffer at its end, whose bytes after the text stay
pub data Wrote : Type 0 where
  refuses : Refusal → Wrote
  wrote : ℕ → ℕ → Wrote

pub data Writes (b : List ℕ) (s : Store) (k : ℕ) (buffer : List ℕ) : Wrote → List ℕ → Type 0 where
  text_refuses : {r : Refusal} → First (texting b s k (length buffer)) r → Writes b s k buffer (refuses r) buffer
  text_wrote : {e e' : Expr} {s' : Store} {o : Outcome} {T K : ℕ}
      → Passes (texting b s k (length buffer)) → Holds b e → Yields k e s (answer o T K e' s')
      → Writes b s k buffer (wrote (length (text e')) T) (text e' ++ drop (length (text e')) buffer)
