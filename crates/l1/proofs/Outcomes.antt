-- The run with fuel: one answer at most, and for a typed row exactly one; T and K are the counts of the definition's own steps.
use Prim.Native.Nat.{ℕ, zero, suc, ◌+◌, ◌-◌, ◌≤◌}
use native.Mathlib.Nat.{zero-add, add-zero, suc-add, add_assoc}
use native.Mathlib.Omega.{arith}
use mathlib.Core.Path.{◌≡◌, refl, ap}
use Rattle.l1.specs.Syntax.{Expr, Value, Ty}
use Rattle.l1.specs.Store.{Store}
use Rattle.l1.specs.Typing.{TypeEnv, ◌⊢◌∶◌}
use Rattle.l1.specs.Steps.{Rule, ⟨◌∣◌⟩⟶⟨◌∣◌⟩◌}
use Rattle.l1.specs.Overflow.{◌overflows_at◌}
use Rattle.l1.specs.Run.{whiles, Run, stay, more, Outcome, value, overflow, fuel, Answer, answer, Yields, ends_value, ends_overflow, ends_fuel, goes_on}
use Rattle.l1.specs.Next.{does_end, does_overflow, does_step}
use Rattle.l1.specs.Measures.{working, loop_nodes, limit}
use Rattle.l1.proofs.Values.{value_makes_no_step, value_is_no_overflow}
use Rattle.l1.proofs.Determinism.{determinism}
use Rattle.l1.proofs.OneAct.{overflow_at_one_node, overflow_makes_no_step}
use Rattle.l1.proofs.Progress.{Covers, SomeAct, some_act}
use Rattle.l1.proofs.Preservation.{step_keeps_type, step_keeps_locations}
use Rattle.l1.proofs.Runs.{run_then_step}
use Rattle.l1.proofs.Bound.{run_within_limit, run_without_loop}

same_answer : {r r' : Rule} {o o' : Outcome} {T T' K K' : ℕ} {e e' : Expr} {s s' : Store}
    → r ≡ r' → answer o T K e s ≡ answer o' T' K' e' s' → answer o (suc T) (whiles r + K) e s ≡ answer o' (suc T') (whiles r' + K') e' s'
same_answer p h = cc

pub one_answer : {f : ℕ} {e : Expr} {s : Store} {a a' : Answer} → Yields f e s a → Yields f e s a' → a ≡ a'
one_answer (ends_value v) (ends_value v') = refl
one_answer (ends_value v) (ends_overflow q) = absurd (value_is_no_overflow v q)
one_answer (ends_value v) (ends_fuel d) = absurd (value_makes_no_step v d)
one_answer (ends_value v) (goes_on d y) = absurd (value_makes_no_step v d)
one_answer (ends_overflow p) (ends_value v) = absurd (value_is_no_overflow v p)
one_answer {e = e} {s = s} (ends_overflow p) (ends_overflow q) = ap (λ (n : ℕ). answer (overflow n) 0 0 e s) (overflow_at_one_node p q)
one_answer (ends_overflow p) (ends_fuel d) = absurd (overflow_makes_no_step p d)
one_answer (ends_overflow p) (goes_on d y) = absurd (overflow_makes_no_step p d)
one_answer (ends_fuel d) (ends_value v) = absurd (value_makes_no_step v d)
one_answer (ends_fuel d) (ends_overflow q) = absurd (overflow_makes_no_step q d)
one_answer (ends_fuel d) (ends_fuel d') = refl
one_answer (goes_on d y) (ends_value v) = absurd (value_makes_no_step v d)
one_answer (goes_on d y) (ends_overflow q) = absurd (overflow_makes_no_step q d)
one_answer (goes_on d y) (goes_on d' y') =
    let (p, q, w) = determinism d d' in
    same_answer p (one_answer y (rw (← q, ← w) at y'))

abbrev SomeAnswer : ℕ → Expr → Store → Type 0
SomeAnswer f e s = (a : Answer) × Yields f e s a

at_no_fuel : {e : Expr} {s : Store} → SomeAct e s → SomeAnswer zero e s
at_no_fuel (_, does_end v) = (_, ends_value v)
at_no_fuel (_, does_overflow p) = (_, ends_overflow p)
at_no_fuel (_, does_step d) = (_, ends_fuel d)

after_step : {f : ℕ} {r : Rule} {e e' : Expr} {s s' : Store} → ⟨ e ∣ s ⟩⟶⟨ e' ∣ s' ⟩ r → SomeAnswer f e' s' → SomeAnswer (suc f) e s
after_step d (answer o T K e s, y) = (_, goes_on d y)

at_fuel : {Γ : TypeEnv} {T : Ty} {f : ℕ} {e : Expr} {s : Store}
    → SomeAct e s → Covers Γ s → Γ ⊢ e ∶ T → ((e : Expr) (s : Store) → Covers Γ s → Γ ⊢ e ∶ T → SomeAnswer f e s) → SomeAnswer (suc f) e s
at_fuel (_, does_end v) c a go = (_, ends_value v)
at_fuel (_, does_overflow p) c a go = (_, ends_overflow p)
at_fuel (_, does_step d) c a go = after_step d (go _ _ (omega (arith, step_keeps_locations d)) (step_keeps_type d a))

pub some_answer : {Γ : TypeEnv} {T : Ty} (f : ℕ) {e : Expr} {s : Store} → Covers Γ s → Γ ⊢ e ∶ T → SomeAnswer f e s
some_answer zero c a = at_no_fuel (some_act c a)
some_answer (suc f) c a = at_fuel (some_act c a) c a (λ e s c' a'. some_answer f c' a')

pub exactly_one_answer : {Γ : TypeEnv} {T : Ty} (f : ℕ) {e : Expr} {s : Store}
    → Covers Γ s → Γ ⊢ e ∶ T → (a : Answer) × Yields f e s a × ((b : Answer) → Yields f e s b → b ≡ a)
exactly_one_answer f c a = let p = some_answer f c a in (p.0, p.1, λ b y. one_answer y p.1)

-- what an answer says of the steps made: how many, and where they led
pub answer_counts_steps : {f T K : ℕ} {o : Outcome} {e e' : Expr} {s s' : Store} → Yields f e s (answer o T K e' s') → Run T K e s e' s' × (T ≤ f)
answer_counts_steps (ends_value v) = (stay, omega arith)
answer_counts_steps (ends_overflow p) = (stay, omega arith)
answer_counts_steps (ends_fuel d) = (stay, omega arith)
answer_counts_steps (goes_on d y) = let p = answer_counts_steps y in (more d p.0, omega arith)

-- and how it ended: the value is the last expression, the overflow is its next act, spent fuel is all spent with a step still to be made
pub data EndsWith (f T : ℕ) (e : Expr) (s : Store) : Outcome → Type 0 where
  with_value : Value e → EndsWith f T e s (value e)
  with_overflow : {n : ℕ} → e overflows_at n → EndsWith f T e s (overflow n)
  with_fuel : {r : Rule} {e' : Expr} {s' : Store} → T ≡ f → ⟨ e ∣ s ⟩⟶⟨ e' ∣ s' ⟩ r → EndsWith f T e s fuel

one_step_later : {f T : ℕ} {e : Expr} {s : Store} {o : Outcome} → EndsWith f T e s o → EndsWith (suc f) (suc T) e s o
one_step_later (with_value v) = with_value v
one_step_later (with_overflow p) = with_overflow p
one_step_later (with_fuel q d) = with_fuel (ap suc q) d

pub answer_ends : {f T K : ℕ} {o : Outcome} {e e' : Expr} {s s' : Store} → Yields f e s (answer o T K e' s') → EndsWith f T e' s' o
answer_ends (ends_value v) = with_value v
answer_ends (ends_overflow p) = with_overflow p
answer_ends (ends_fuel d) = with_fuel refl d
answer_ends (goes_on d y) = one_step_later (answer_ends y)

-- these two are all that an answer says: they give it back
pub run_then_answer : {T K f T' K' : ℕ} {o : Outcome} {e e₁ e₂ : Expr} {s s₁ s₂ : Store}
    → Run T K e s e₁ s₁ → Yields f e₁ s₁ (answer o T' K' e₂ s₂) → Yields (T + f) e s (answer o (T + T') (K + K') e₂ s₂)
run_then_answer stay y = simp zero-add y
run_then_answer (more d ds) y = simp (suc-add, add_assoc) (goes_on d (run_then_answer ds y))

-- a run that ends where it stands
pub run_then_end : {T K f : ℕ} {o : Outcome} {e e₁ : Expr} {s s₁ : Store}
    → Run T K e s e₁ s₁ → T ≤ f → Yields (f - T) e₁ s₁ (answer o 0 0 e₁ s₁) → Yields f e s (answer o T K e₁ s₁)
run_then_end {T} {K} {f} ds h y =
    let q : T + (f - T) ≡ f = omega arith in
    let z = run_then_answer ds y in
    rw (q, add-zero T, add-zero K) at z

-- demand 3's limit and its row with no loop
pub answer_within_limit : {f T K : ℕ} {o : Outcome} {e e' : Expr} {s s' : Store} → Yields f e s (answer o T K e' s') → T ≤ limit (working e) K
answer_within_limit y = run_within_limit (answer_counts_steps y).0

only_work : (W K : ℕ) → K ≤ 0 → limit W K ≡ W
only_work W K h = let none : K ≡ 0 = omega arith in rw none (omega arith)

pub no_loop_comes_to_its_end : {f T K : ℕ} {e e' : Expr} {s s' : Store}
    → loop_nodes e ≡ 0 → working e ≤ f → Yields f e s (answer fuel T K e' s') → ⊥
no_loop_comes_to_its_end {f} {T} {K} {e} {e'} {s} {s'} z w y = go (answer_ends y)
  where
    go : EndsWith f T e' s' fuel → ⊥
    go (with_fuel q d) =
        let ds = run_then_step (answer_counts_steps y).0 d in
        let none = run_without_loop ds (omega arith) in
        omega (arith, only_work (working e) _ none, run_within_limit ds)
