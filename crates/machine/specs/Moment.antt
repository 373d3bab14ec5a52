-- The moment of a run that a state stands for.
use Rattle.std.specs.Prelude.{ℕ, suc, ◌+◌, ◌<◌, ◌≤◌, ◌≡◌, Option, Some, List, get_or, length}
use Rattle.l1.specs.Syntax.{Expr}
use Rattle.l1.specs.Store.{Store}
use Rattle.l1.specs.Steps.{⟨◌∣◌⟩⟶⟨◌∣◌⟩◌}
use Rattle.l1.specs.Run.{Run}
use Rattle.stored.specs.Refusals.{locations}
use Rattle.routine.specs.Open.{root_of, Runnable}
use Rattle.machine.specs.Contexts.{plug}
use Rattle.machine.specs.State.{expr_of, Seen, takes_of, Held, blank, stack}
use Rattle.machine.specs.Acts.{rule_of}
use Rattle.machine.specs.declared.state.Pending.{Pending}
use Rattle.machine.specs.declared.state.Rule.{Rule as Named}
use Rattle.machine.specs.declared.state.Machine.{Machine}

-- the expression that a state stands for
abbrev pub meaning : List ℕ → Pending → Machine → Expr
meaning b p m = plug (stack b p.frames p.height) (expr_of b m.work)

-- the last step of a run to ⟨e, s⟩ in T steps is by the rule ρ
pub data LastStep (e₀ : Expr) (s₀ : Store) (T : ℕ) (e : Expr) (s : Store) (last : Option Named) : Type 0 where
  no_step : T ≡ 0 → LastStep e₀ s₀ T e s last
  last_step : {T' K' : ℕ} {e' : Expr} {s' : Store} {ρ : Named}
      → T ≡ suc T' → Run T' K' e₀ s₀ e' s' → ⟨ e' ∣ s' ⟩⟶⟨ e ∣ s ⟩ rule_of ρ → last ≡ Some ρ
      → LastStep e₀ s₀ T e s last

-- the state and the store s are where the run of the routine from s₀ stands after its steps
pub record Moment (b : List ℕ) (s₀ s : Store) (p : Pending) (m : Machine) : Type 0 where
  pub runnable : Runnable b
  pub covered : locations b ≤ length s₀
  pub run : Run m.steps m.loops (root_of b) s₀ (meaning b p m) s
  pub last : LastStep (root_of b) s₀ m.steps (meaning b p m) s m.rule
  pub seen : Seen b m.work
  pub frames : length p.frames ≡ 256
  -- The next act reads and writes one of the 256 frames: at a value the one on top, at a node the one above it. The height and the node's own places
  -- are 256 at most together, so a node that has places has a frame. A dereference has none, but no place is pushed for it (`PushedFor`): it has
  -- the frame of the act before, or the first of all.
  pub room : p.height < 256 + takes_of m.work
  pub held : (j : ℕ) → j < p.height → Held b (get_or p.frames j blank).place
