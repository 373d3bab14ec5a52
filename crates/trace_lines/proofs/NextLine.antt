-- Which line comes next: that of the moment after one step more, or the last.
use Prim.Native.Nat.{ℕ, zero, suc, ◌+◌, ◌≤◌, ◌<◌}
use native.Mathlib.Nat.{add-zero}
use native.Mathlib.Omega.{arith}
use mathlib.Core.Path.{◌≡◌, refl, ap, ap₂, ◌∙◌, subst}
use mathlib.Core.Logic.{◌⊎◌, inl, inr}
use mathlib.Core.List.{List, [], ◌∷◌, ◌++◌}
use Rattle.std.specs.Prelude.{Option}
use Rattle.l1.specs.Syntax.{Expr}
use Rattle.l1.specs.Store.{Store}
use Rattle.l1.specs.Steps.{Rule, ⟨◌∣◌⟩⟶⟨◌∣◌⟩◌}
use Rattle.l1.specs.Run.{whiles, Run, stay, more, Outcome, answer, Yields, ends_value, ends_overflow, ends_fuel, goes_on}
use Rattle.l1.specs.Text.{bytes, rule_name}
use Rattle.l1.proofs.Determinism.{determinism}
use Rattle.l1.proofs.Values.{value_makes_no_step}
use Rattle.l1.proofs.OneAct.{overflow_makes_no_step}
use Rattle.l1.proofs.Outcomes.{answer_counts_steps}
use Rattle.stored.specs.Trace.{moment_line, moment_lines, last_line}
use Rattle.routine.specs.Open.{root_of}
use Rattle.machine.specs.Acts.{rule_of}
use Rattle.machine.specs.Moment.{meaning, LastStep, no_step, last_step, Moment}
use Rattle.machine.specs.declared.state.Pending.{Pending}
use Rattle.machine.specs.declared.state.Machine.{Machine}
use Rattle.machine.specs.declared.state.Rule.{Rule as Named}
use Rattle.trace_lines.specs.Lines.{LinesTo, lines_to, AllLines, all_lines, LinesAt, name_of}

-- two runs of as many steps from one place come to one place, by as many turns of loops
pub same_end : {T T' K K' : ℕ} {e e' a a' : Expr} {s s' z z' : Store} → T ≡ T' → e ≡ e' → s ≡ s'
    → Run T K e s a z → Run T' K' e' s' a' z' → (a ≡ a') × (z ≡ z') × (K ≡ K')
same_end t q p stay stay = (q, p, refl)
same_end t q p stay (more d ds) = absurd (omega arith)
same_end t q p (more d ds) stay = absurd (omega arith)
same_end t q p (more d ds) (more d' ds') =
    let (r, q', p') = determinism (rw (q, p) at d) d' in
    let (a, z, k) = same_end (omega arith) q' p' ds ds' in
    (a, z, ap₂ (λ (x : Rule) (n : ℕ). whiles x + n) r k)

-- the lines of a run with one step more
moments_more : (k : ℕ) {T T' K K' : ℕ} {r : Rule} {e e' a a₁ a' : Expr} {s s' z z₁ z' : Store}
    → (ds : Run T K e s a z) → ⟨ a ∣ z ⟩⟶⟨ a₁ ∣ z₁ ⟩ r → (ds' : Run T' K' e' s' a' z') → T' ≡ suc T → e ≡ e' → s ≡ s'
    → moment_lines k ds' ≡ moment_lines k ds ++ moment_line (suc (k + T)) (rule_name r) a₁ z₁ ∷ []
moments_more k stay d stay t q p = absurd (omega arith)
moments_more k stay d (more d' stay) t q p =
    let (r, q', p') = determinism (rw (q, p) at d) d' in rw (add-zero k, r, q', p') refl
moments_more k stay d (more d' (more d'' ds)) t q p = absurd (omega arith)
moments_more k (more d ds) d₁ stay t q p = absurd (omega arith)
moments_more k {r = r} {a₁ = a₁} {z₁ = z₁} (more {T = T} d ds) d₁ (more d' ds') t q p =
    let (r', q', p') = determinism (rw (q, p) at d) d' in
    let n : suc (suc k + T) ≡ suc (k + suc T) = omega arith in
    ap₂ ◌∷◌ (rw (r', q', p') refl)
    (moments_more (suc k) ds d₁ ds' (omega arith) q' p' ∙ ap (λ (i : ℕ). moment_lines (suc k) ds ++ moment_line i (rule_name r) a₁ z₁ ∷ []) n)

module _ {b : List ℕ} {s₀ : Store} where
  told_next : {ls : List (List ℕ)} {T T' K : ℕ} {last : Option Named} {e e' : Expr} {s s' : Store} → LinesTo b s₀ ls T e s → T' ≡ suc T
      → Run T' K (root_of b) s₀ e' s' → LastStep (root_of b) s₀ T' e' s' last
      → LinesTo b s₀ (ls ++ moment_line T' (name_of last) e' s' ∷ []) T' e' s'
  told_next (lines_to ds) t ds' (no_step z) = absurd (omega arith)
  told_next {T' = T'} {last = last} {e' = e'} {s' = s'} (lines_to {T} {e = e} {s = s} ds) t ds' (last_step {ρ = ρ} u run d n) =
      let (q, p, k) = same_end (omega arith) refl refl ds run in
      let step : ⟨ e ∣ s ⟩⟶⟨ e' ∣ s' ⟩ rule_of ρ = rw (q, p) d in
      let m = moments_more 0 ds step ds' t refl refl in
      let w : rule_name (rule_of ρ) ≡ name_of last = rw n refl in
      let n' : suc (0 + T) ≡ T' = omega arith in
      subst (λ (x : List (List ℕ)). LinesTo b s₀ (moment_line 0 (bytes "start") (root_of b) s₀ ∷ x) T' e' s')
      (m ∙ ap₂ (λ (i : ℕ) (name : List ℕ). moment_lines 0 ds ++ moment_line i name e' s' ∷ []) n' w)
      (lines_to ds')

  told_last : {ls : List (List ℕ)} {f T T' K : ℕ} {o : Outcome} {e e' : Expr} {s s' : Store} → LinesTo b s₀ ls T e s → T ≡ T'
      → Yields f (root_of b) s₀ (answer o T' K e' s') → AllLines b s₀ f (ls ++ last_line o T' K ∷ [])
  told_last {ls} {T' = T'} {e' = e'} {s' = s'} (lines_to ds) t y =
      let (q, p, k) = same_end t refl refl ds (answer_counts_steps y).0 in
      let same : LinesTo b s₀ ls T' e' s' = rw (← t, ← q, ← p) (lines_to ds) in
      all_lines same y

-- a run has not ended before a step that it makes
not_before : {f T T' K K' : ℕ} {o : Outcome} {e e₁ e' a : Expr} {s s₁ s' z : Store} → T ≤ f → e ≡ e₁ → s ≡ s₁
    → Run T K e s a z → Yields f e₁ s₁ (answer o T' K' e' s') → T ≤ T'
not_before l q p stay y = omega arith
not_before l q p (more d ds) (ends_value v) = absurd (value_makes_no_step v (rw (q, p) at d))
not_before l q p (more d ds) (ends_overflow o) = absurd (overflow_makes_no_step o (rw (q, p) at d))
not_before l q p (more d ds) (ends_fuel d') = absurd (omega arith)
not_before {f = suc f} {T = suc T} l q p (more d ds) (goes_on d' y) =
    let (r, q', p') = determinism (rw (q, p) at d) d' in
    let k : T ≤ f = omega arith in
    let i = not_before {f = f} k q' p' ds y in
    omega arith

-- fuel that is left changes nothing
more_fuel : (f : ℕ) {f' T K : ℕ} {o : Outcome} {e e' : Expr} {s s' : Store} → f' ≤ f → T < f'
    → Yields f' e s (answer o T K e' s') → Yields f e s (answer o T K e' s')
more_fuel f g l (ends_value v) = ends_value v
more_fuel f g l (ends_overflow o) = ends_overflow o
more_fuel f g l (ends_fuel d) = absurd (omega arith)
more_fuel zero g l (goes_on d y) = absurd (omega arith)
more_fuel (suc f) g l (goes_on {f = f'} {T = T} d y) =
    let g' : f' ≤ f = omega arith in
    let l' : T < f' = omega arith in
    goes_on d (more_fuel f g' l' y)

-- from the moment of T steps the machine went on to at most one step more, within the fuel f
module _ {b : List ℕ} {s₀ s s' : Store} {ls : List (List ℕ)} {p p' : Pending} {m m' : Machine} {o : Outcome} {limit : ℕ}
    (i : LinesAt b s₀ ls p m s) (next : Moment b s₀ s' p' m')
    (y : Yields limit (root_of b) s₀ (answer o m'.steps m'.loops (meaning b p' m') s')) where
  pub goes_no_back : m.steps ≤ limit → (m.steps ≤ m'.steps) × (m'.steps ≤ limit)
  goes_no_back l = (not_before l refl refl i.moment.run y, (answer_counts_steps y).1)

  pub one_more_line : m'.steps ≡ suc m.steps
      → LinesAt b s₀ (ls ++ moment_line m'.steps (name_of m'.rule) (meaning b p' m') s' ∷ []) p' m' s'
  one_more_line t = record { moment = next; lines = told_next i.lines t next.run next.last }

  pub last_line_lem : (f : ℕ) → m.steps ≡ m'.steps → (limit ≡ f) ⊎ ((m.steps < limit) × (limit ≤ f))
      → AllLines b s₀ f (ls ++ last_line o m'.steps m'.loops ∷ [])
  last_line_lem f t (inl q) = told_last i.lines t (rw q at y)
  last_line_lem f t (inr (l, g)) = told_last i.lines t (more_fuel f g (omega arith) y)
