-- 01, "The run": steps in a row with their counts T and K, and what a run with fuel yields.
use Rattle.std.specs.Prelude.{ℕ, suc, ◌+◌}
use Rattle.l1.specs.Syntax.{Expr, Value}
use Rattle.l1.specs.Store.{Store}
use Rattle.l1.specs.Steps.{Rule, by_plus, by_geq, by_deref, by_assign, by_seq, by_if_true, by_if_false, by_while, ⟨◌∣◌⟩⟶⟨◌∣◌⟩◌}
use Rattle.l1.specs.Overflow.{◌overflows_at◌}

-- what a step adds to K
abbrev pub whiles : Rule → ℕ
whiles by_plus = 0
whiles by_geq = 0
whiles by_deref = 0
whiles by_assign = 0
whiles by_seq = 0
whiles by_if_true = 0
whiles by_if_false = 0
whiles by_while = 1

-- `Run T K e s e' s'`: from ⟨e, s⟩ to ⟨e', s'⟩ in T steps, K of them by the rule `while`
pub data Run : ℕ → ℕ → Expr → Store → Expr → Store → Type 0 where
  stay : {e : Expr} {s : Store}
      → Run 0 0 e s e s
  more : {T K : ℕ} {r : Rule} {e e₁ e₂ : Expr} {s s₁ s₂ : Store}
      → ⟨ e ∣ s ⟩⟶⟨ e₁ ∣ s₁ ⟩ r → Run T K e₁ s₁ e₂ s₂
      → Run (suc T) (whiles r + K) e s e₂ s₂

pub data Outcome : Type 0 where
  value : Expr → Outcome
  overflow : ℕ → Outcome
  fuel : Outcome

-- the outcome, T, K, and the expression and the store after T steps
pub data Answer : Type 0 where
  answer : Outcome → ℕ → ℕ → Expr → Store → Answer

-- `Yields f e s a`: the run of ⟨e, s⟩ with fuel f answers a. At each moment a value ends it; else an overflow; else, with a step still to be
-- made, spent fuel; else that step is made. (That at most one of value, overflow and step is there is a theorem: `only_one_act`.)
pub data Yields : ℕ → Expr → Store → Answer → Type 0 where
  ends_value : {f : ℕ} {e : Expr} {s : Store}
      → Value e
      → Yields f e s (answer (value e) 0 0 e s)
  ends_overflow : {f n : ℕ} {e : Expr} {s : Store}
      → e overflows_at n
      → Yields f e s (answer (overflow n) 0 0 e s)
  ends_fuel : {r : Rule} {e e₁ : Expr} {s s₁ : Store}
      → ⟨ e ∣ s ⟩⟶⟨ e₁ ∣ s₁ ⟩ r
      → Yields 0 e s (answer fuel 0 0 e s)
  goes_on : {f T K : ℕ} {o : Outcome} {r : Rule} {e e₁ e₂ : Expr} {s s₁ s₂ : Store}
      → ⟨ e ∣ s ⟩⟶⟨ e₁ ∣ s₁ ⟩ r → Yields f e₁ s₁ (answer o T K e₂ s₂)
      → Yields (suc f) e s (answer o (suc T) (whiles r + K) e₂ s₂)
