-- The lines that `trace` prints of a run, as far as the run has come, and all of them.
use Rattle.std.specs.Prelude.{ℕ, Option, None, Some, List, [], ◌∷◌, ◌++◌}
use Rattle.l1.specs.Syntax.{Expr}
use Rattle.l1.specs.Store.{Store}
use Rattle.l1.specs.Run.{Run, Outcome, value, overflow, fuel, answer, Yields}
use Rattle.l1.specs.Text.{bytes, decimal, rule_name, text}
use Rattle.stored.specs.Trace.{moment_line, moment_lines, last_line}
use Rattle.routine.specs.Open.{root_of}
use Rattle.machine.specs.Acts.{rule_of}
use Rattle.machine.specs.Moment.{meaning, Moment}
use Rattle.machine.specs.declared.state.Pending.{Pending}
use Rattle.machine.specs.declared.state.Machine.{Machine}
use Rattle.machine.specs.declared.state.Rule.{Rule}

-- the line of every moment up to ⟨e, s⟩, which a run from s₀ comes to after T steps
pub data LinesTo (b : List ℕ) (s₀ : Store) : List (List ℕ) → ℕ → Expr → Store → Type 0 where
  lines_to : {T K : ℕ} {e : Expr} {s : Store} → (ds : Run T K (root_of b) s₀ e s)
      → LinesTo b s₀ (moment_line 0 (bytes "start") (root_of b) s₀ ∷ moment_lines 0 ds) T e s

-- those, and the last line
pub data AllLines (b : List ℕ) (s₀ : Store) (f : ℕ) : List (List ℕ) → Type 0 where
  all_lines : {o : Outcome} {T K : ℕ} {e : Expr} {s : Store} {ls : List (List ℕ)}
      → LinesTo b s₀ ls T e s → Yields f (root_of b) s₀ (answer o T K e s)
      → AllLines b s₀ f (ls ++ last_line o T K ∷ [])

-- the machine stands at a moment, and the lines up to it are told
pub record LinesAt (b : List ℕ) (s₀ : Store) (ls : List (List ℕ)) (p : Pending) (m : Machine) (s : Store) : Type 0 where
  pub moment : Moment b s₀ s p m
  pub lines : LinesTo b s₀ ls m.steps (meaning b p m) s

-- lines one after the other
abbrev pub joined : List (List ℕ) → List ℕ
joined [] = []
joined (l ∷ ls) = l ++ joined ls

-- the name of the last step's rule; before the first step it is the start
abbrev pub name_of : Option Rule → List ℕ
name_of None = bytes "start"
name_of (Some ρ) = rule_name (rule_of ρ)

-- the last line up to T
abbrev pub outcome_text : Outcome → List ℕ
outcome_text (value v) = bytes "value " ++ text v
outcome_text (overflow n) = bytes "overflow at " ++ decimal n
outcome_text fuel = bytes "fuel"
