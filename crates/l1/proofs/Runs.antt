-- Steps in a row: a run keeps what a step keeps, two runs join, a run can be made one step longer at its end, and K ≤ T.
use Prim.Native.Nat.{ℕ, ◌+◌, ◌≤◌}
use native.Mathlib.Nat.{zero-add, add-zero, suc-add, add_assoc}
use native.Mathlib.Omega.{arith}
use mathlib.Core.Path.{◌≡◌, refl, ◌∙◌}
use lib.ListN.{length}
use Rattle.l1.specs.Syntax.{Loc, Expr, Ty}
use Rattle.l1.specs.Store.{Store, lookup}
use Rattle.l1.specs.Typing.{TypeEnv, ◌⊢◌∶◌}
use Rattle.l1.specs.Steps.{Rule, by_plus, by_geq, by_deref, by_assign, by_seq, by_if_true, by_if_false, by_while, ⟨◌∣◌⟩⟶⟨◌∣◌⟩◌}
use Rattle.l1.specs.Run.{whiles, Run, stay, more}
use Rattle.l1.specs.Sets.{writes, ◌∈◌, writing}
use Rattle.l1.proofs.Preservation.{step_keeps_type, step_keeps_locations, step_keeps_uses, step_keeps_others}

pub run_keeps_type : {Γ : TypeEnv} {U : Ty} {T K : ℕ} {e e' : Expr} {s s' : Store} → Run T K e s e' s' → Γ ⊢ e ∶ U → Γ ⊢ e' ∶ U
run_keeps_type stay a = a
run_keeps_type (more d ds) a = run_keeps_type ds (step_keeps_type d a)

pub run_keeps_locations : {T K : ℕ} {e e' : Expr} {s s' : Store} → Run T K e s e' s' → length s' ≡ length s
run_keeps_locations stay = refl
run_keeps_locations (more d ds) = run_keeps_locations ds ∙ step_keeps_locations d

pub run_keeps_others : {T K : ℕ} {e e' : Expr} {s s' : Store} {l : Loc} → Run T K e s e' s' → ¬ (l ∈ writes e) → lookup s' l ≡ lookup s l
run_keeps_others stay n = refl
run_keeps_others (more d ds) n = run_keeps_others ds (λ m. n ((step_keeps_uses writing d).each _ m)) ∙ step_keeps_others d n

pub run_join : {T K T' K' : ℕ} {e e₁ e₂ : Expr} {s s₁ s₂ : Store} → Run T K e s e₁ s₁ → Run T' K' e₁ s₁ e₂ s₂ → Run (T + T') (K + K') e s e₂ s₂
run_join stay ds = simp zero-add ds
run_join (more d ds) ds' = simp (suc-add, add_assoc) (more d (run_join ds ds'))

pub run_then_step : {T K : ℕ} {r : Rule} {e e₁ e₂ : Expr} {s s₁ s₂ : Store}
    → Run T K e s e₁ s₁ → ⟨ e₁ ∣ s₁ ⟩⟶⟨ e₂ ∣ s₂ ⟩ r → Run (T + 1) (K + whiles r) e s e₂ s₂
run_then_step {r = r} ds d = rw (← add-zero (whiles r)) (run_join ds (more d stay))

-- K is among T
at_most_one : (r : Rule) → whiles r ≤ 1
at_most_one by_plus = omega arith
at_most_one by_geq = omega arith
at_most_one by_deref = omega arith
at_most_one by_assign = omega arith
at_most_one by_seq = omega arith
at_most_one by_if_true = omega arith
at_most_one by_if_false = omega arith
at_most_one by_while = omega arith

pub whiles_among_steps : {T K : ℕ} {e e' : Expr} {s s' : Store} → Run T K e s e' s' → K ≤ T
whiles_among_steps stay = omega arith
whiles_among_steps (more {r = r} d ds) = omega (arith, whiles_among_steps ds, at_most_one r)
