-- A run of T steps, K of them by `while`, from an expression with W working nodes has T ≤ W + K × (W + 2).
-- The work that is left is the working nodes of the expression as it stands. Each step but `while` takes one or more away. A `while` step
-- adds those of its loop and one more, and no loop is ever larger than the largest at the start: no rule works inside a loop, and `while`
-- copies loops whole.
use Prim.Native.Nat.{ℕ, ◌+◌, ◌*◌, ◌≤◌, max}
use native.Mathlib.Nat.{add-mul}
use native.Mathlib.Omega.{arith}
use Rattle.l1.specs.Syntax.{Expr, int, bool, ◌‹◌#◌›◌, if◌then'◌else◌, ◌:=◌, !◌, skip, ◌⨾◌, while◌do'◌done}
use Rattle.l1.specs.Store.{Store}
use Rattle.l1.specs.Steps.{Rule, ⟨◌∣◌⟩⟶⟨◌∣◌⟩◌, op+, op≥, op1, op2, deref, assign1, assign2, seq1, seq2, if1, if2, if3, while}
use Rattle.l1.specs.Run.{whiles, Run, stay, more}
use Rattle.l1.specs.Measures.{working, loop_nodes, limit}

-- the working nodes of the largest loop
abbrev largest_loop : Expr → ℕ
largest_loop (int n) = 0
largest_loop (bool b) = 0
largest_loop (e₁ ‹ o # i › e₂) = max (largest_loop e₁) (largest_loop e₂)
largest_loop (if e₁ then' e₂ else e₃) = max (largest_loop e₁) (max (largest_loop e₂) (largest_loop e₃))
largest_loop (l := e) = largest_loop e
largest_loop (! l) = 0
largest_loop skip = 0
largest_loop (e₁ ⨾ e₂) = max (largest_loop e₁) (largest_loop e₂)
largest_loop (while e₁ do' e₂ done) = 1 + working e₁ + working e₂

loop_within_work : (e : Expr) → largest_loop e ≤ working e
loop_within_work (int n) = omega arith
loop_within_work (bool b) = omega arith
loop_within_work (e₁ ‹ o # i › e₂) = omega (arith, loop_within_work e₁, loop_within_work e₂)
loop_within_work (if e₁ then' e₂ else e₃) = omega (arith, loop_within_work e₁, loop_within_work e₂, loop_within_work e₃)
loop_within_work (l := e) = omega (arith, loop_within_work e)
loop_within_work (! l) = omega arith
loop_within_work skip = omega arith
loop_within_work (e₁ ⨾ e₂) = omega (arith, loop_within_work e₁, loop_within_work e₂)
loop_within_work (while e₁ do' e₂ done) = omega arith

no_loop_grows : {r : Rule} {e e' : Expr} {s s' : Store} → ⟨ e ∣ s ⟩⟶⟨ e' ∣ s' ⟩ r → largest_loop e' ≤ largest_loop e
no_loop_grows (op+ q h) = omega arith
no_loop_grows (op≥ q) = omega arith
no_loop_grows (op1 d) = omega (arith, no_loop_grows d)
no_loop_grows (op2 v d) = omega (arith, no_loop_grows d)
no_loop_grows (deref h q) = omega arith
no_loop_grows (assign1 h) = omega arith
no_loop_grows (assign2 d) = omega (arith, no_loop_grows d)
no_loop_grows seq1 = omega arith
no_loop_grows (seq2 d) = omega (arith, no_loop_grows d)
no_loop_grows if1 = omega arith
no_loop_grows if2 = omega arith
no_loop_grows (if3 d) = omega (arith, no_loop_grows d)
no_loop_grows ((while) {e₁} {e₂}) = omega (arith, loop_within_work e₁, loop_within_work e₂)

-- B bounds the largest loop; as a variable, it is one atom to `omega`
step_takes_work : {r : Rule} {e e' : Expr} {s s' : Store} (B : ℕ)
    → ⟨ e ∣ s ⟩⟶⟨ e' ∣ s' ⟩ r → largest_loop e ≤ B → working e' + 1 ≤ working e + whiles r * (B + 2)
step_takes_work B (op+ q h) b = omega arith
step_takes_work B (op≥ q) b = omega arith
step_takes_work B (op1 d) b = omega (arith, step_takes_work B d (omega arith))
step_takes_work B (op2 v d) b = omega (arith, step_takes_work B d (omega arith))
step_takes_work B (deref h q) b = omega arith
step_takes_work B (assign1 h) b = omega arith
step_takes_work B (assign2 d) b = omega (arith, step_takes_work B d (omega arith))
step_takes_work B seq1 b = omega arith
step_takes_work B (seq2 d) b = omega (arith, step_takes_work B d (omega arith))
step_takes_work B if1 b = omega arith
step_takes_work B if2 b = omega arith
step_takes_work B (if3 d) b = omega (arith, step_takes_work B d (omega arith))
step_takes_work B (while) b = omega arith

run_takes_work : {T K : ℕ} {e e' : Expr} {s s' : Store} (B : ℕ)
    → Run T K e s e' s' → largest_loop e ≤ B → working e' + T ≤ working e + K * (B + 2)
run_takes_work B stay b = omega arith
run_takes_work B (more {K = K} {r = r} d ds) b =
    rw (add-mul (whiles r) K (B + 2)) (omega (arith, step_takes_work B d b, run_takes_work B ds (omega (arith, no_loop_grows d))))

pub run_within_limit : {T K : ℕ} {e e' : Expr} {s s' : Store} → Run T K e s e' s' → T ≤ limit (working e) K
run_within_limit {e = e} ds = omega (arith, run_takes_work (working e) ds (loop_within_work e))

-- where there is no loop, none comes, and no step is by `while`
step_without_loop : {r : Rule} {e e' : Expr} {s s' : Store} → ⟨ e ∣ s ⟩⟶⟨ e' ∣ s' ⟩ r → loop_nodes e ≤ 0 → loop_nodes e' + whiles r ≤ 0
step_without_loop (op+ q h) z = omega arith
step_without_loop (op≥ q) z = omega arith
step_without_loop (op1 d) z = omega (arith, step_without_loop d (omega arith))
step_without_loop (op2 v d) z = omega (arith, step_without_loop d (omega arith))
step_without_loop (deref h q) z = omega arith
step_without_loop (assign1 h) z = omega arith
step_without_loop (assign2 d) z = omega (arith, step_without_loop d (omega arith))
step_without_loop seq1 z = omega arith
step_without_loop (seq2 d) z = omega (arith, step_without_loop d (omega arith))
step_without_loop if1 z = omega arith
step_without_loop if2 z = omega arith
step_without_loop (if3 d) z = omega (arith, step_without_loop d (omega arith))
step_without_loop (while) z = absurd (omega arith)

pub run_without_loop : {T K : ℕ} {e e' : Expr} {s s' : Store} → Run T K e s e' s' → loop_nodes e ≤ 0 → K ≤ 0
run_without_loop stay z = omega arith
run_without_loop (more d ds) z = omega (arith, step_without_loop d z, run_without_loop ds (omega (arith, step_without_loop d z)))
