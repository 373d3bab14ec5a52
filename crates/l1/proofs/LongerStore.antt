-- A run asks for no more locations than it has: on a longer store it makes the same steps, and the entries behind stay as they are.
use Prim.Native.Nat.{ℕ, zero, suc, ◌<◌}
use native.Mathlib.Omega.{arith}
use mathlib.Core.Path.{◌≡◌, refl, ap, ◌∙◌}
use mathlib.Core.List.{[], ◌∷◌, ◌++◌}
use lib.IntN.{ℤ, pos}
use lib.ListN.{length, get_or, set, length-append}
use Rattle.l1.specs.Syntax.{Expr}
use Rattle.l1.specs.Store.{Store}
use Rattle.l1.specs.Steps.{Rule, ⟨◌∣◌⟩⟶⟨◌∣◌⟩◌, op+, op≥, op1, op2, deref, assign1, assign2, seq1, seq2, if1, if2, if3, while}
use Rattle.l1.specs.Run.{Outcome, answer, Yields, ends_value, ends_overflow, ends_fuel, goes_on}

get_d_front : (s x : Store) (l : ℕ) → l < length s → get_or (s ++ x) l (pos 0) ≡ get_or s l (pos 0)
get_d_front [] x l h = absurd (omega arith)
get_d_front (n ∷ s) x zero h = refl
get_d_front (n ∷ s) x (suc l) h = get_d_front s x l (omega arith)

set_front : (s x : Store) (l : ℕ) (n : ℤ) → l < length s → set (s ++ x) l n ≡ set s l n ++ x
set_front [] x l n h = absurd (omega arith)
set_front (m ∷ s) x zero n h = refl
set_front (m ∷ s) x (suc l) n h = ap (λ (t : Store). m ∷ t) (set_front s x l n (omega arith))

module _ (x : Store) where
  reaches : (s : Store) {l : ℕ} → l < length s → l < length (s ++ x)
  reaches s h = omega (arith, length-append s x)

  step_longer : {e e' : Expr} {s s' : Store} {r : Rule} → ⟨ e ∣ s ⟩⟶⟨ e' ∣ s' ⟩ r → ⟨ e ∣ s ++ x ⟩⟶⟨ e' ∣ s' ++ x ⟩ r
  step_longer (op+ e r) = op+ e r
  step_longer (op≥ e) = op≥ e
  step_longer (op1 d) = op1 (step_longer d)
  step_longer (op2 v d) = op2 v (step_longer d)
  step_longer (deref {l = l} {s = s} h e) = deref (reaches s h) (get_d_front s x l h ∙ e)
  step_longer (assign1 {l = l} {n = n} {s = s} h) = rw (← set_front s x l n h) (assign1 (reaches s h))
  step_longer (assign2 d) = assign2 (step_longer d)
  step_longer seq1 = seq1
  step_longer (seq2 d) = seq2 (step_longer d)
  step_longer if1 = if1
  step_longer if2 = if2
  step_longer (if3 d) = if3 (step_longer d)
  step_longer while = while

  pub yields_longer : {f T K : ℕ} {o : Outcome} {e e' : Expr} {s s' : Store}
      → Yields f e s (answer o T K e' s') → Yields f e (s ++ x) (answer o T K e' (s' ++ x))
  yields_longer (ends_value v) = ends_value v
  yields_longer (ends_overflow o) = ends_overflow o
  yields_longer (ends_fuel d) = ends_fuel (step_longer d)
  yields_longer (goes_on d y) = goes_on (step_longer d) (yields_longer y)
