-- 02, request 2: the forms that enclose the place of the next step are at no moment of a run more than the row's places, and no step adds to these.
use Prim.Native.Nat.{ℕ, ◌≤◌, ◌<◌}
use native.Mathlib.Omega.{arith}
use Rattle.l1.specs.Syntax.{Expr, int, bool, ◌‹◌#◌›◌, if◌then'◌else◌, ◌:=◌, !◌, skip, ◌⨾◌, while◌do'◌done}
use Rattle.l1.specs.Store.{Store}
use Rattle.l1.specs.Steps.{Rule, ⟨◌∣◌⟩⟶⟨◌∣◌⟩◌, op+, op≥, op1, op2, deref, assign1, assign2, seq1, seq2, if1, if2, if3, while}
use Rattle.l1.specs.Overflow.{◌overflows_at◌, over, over_op1, over_op2, over_assign2, over_seq2, over_if3}
use Rattle.l1.specs.Run.{Run, stay, more}
use Rattle.l1.specs.Enclosing.{enclosing, enclosing_sum}
use Rattle.l1.specs.Measures.{size, places}

pub step_adds_no_places : {r : Rule} {e e' : Expr} {s s' : Store} → ⟨ e ∣ s ⟩⟶⟨ e' ∣ s' ⟩ r → places e' ≤ places e
step_adds_no_places (op+ q h) = omega arith
step_adds_no_places (op≥ q) = omega arith
step_adds_no_places (op1 d) = let p = step_adds_no_places d in omega arith
step_adds_no_places (op2 v d) = let p = step_adds_no_places d in omega arith
step_adds_no_places (deref h q) = omega arith
step_adds_no_places (assign1 h) = omega arith
step_adds_no_places (assign2 d) = let p = step_adds_no_places d in omega arith
step_adds_no_places seq1 = omega arith
step_adds_no_places (seq2 d) = let p = step_adds_no_places d in omega arith
step_adds_no_places if1 = omega arith
step_adds_no_places if2 = omega arith
step_adds_no_places (if3 d) = let p = step_adds_no_places d in omega arith
step_adds_no_places (while) = omega arith

pub run_adds_no_places : {T K : ℕ} {e e' : Expr} {s s' : Store} → Run T K e s e' s' → places e' ≤ places e
run_adds_no_places stay = omega arith
run_adds_no_places (more d ds) = let p = step_adds_no_places d in let q = run_adds_no_places ds in omega arith

enclosed : {r : Rule} {e e' : Expr} {s s' : Store} (d : ⟨ e ∣ s ⟩⟶⟨ e' ∣ s' ⟩ r) → enclosing d ≤ places e
enclosed (op+ q h) = omega arith
enclosed (op≥ q) = omega arith
enclosed (op1 d) = let p = enclosed d in omega arith
enclosed (op2 v d) = let p = enclosed d in omega arith
enclosed (deref h q) = omega arith
enclosed (assign1 h) = omega arith
enclosed (assign2 d) = let p = enclosed d in omega arith
enclosed seq1 = omega arith
enclosed (seq2 d) = let p = enclosed d in omega arith
enclosed if1 = omega arith
enclosed if2 = omega arith
enclosed (if3 d) = let p = enclosed d in omega arith
enclosed (while) = omega arith

enclosed_sum : {e : Expr} {n : ℕ} (p : e overflows_at n) → enclosing_sum p < places e
enclosed_sum (over h) = omega arith
enclosed_sum (over_op1 p) = let q = enclosed_sum p in omega arith
enclosed_sum (over_op2 v p) = let q = enclosed_sum p in omega arith
enclosed_sum (over_assign2 p) = let q = enclosed_sum p in omega arith
enclosed_sum (over_seq2 p) = let q = enclosed_sum p in omega arith
enclosed_sum (over_if3 p) = let q = enclosed_sum p in omega arith

-- "the forms enclosing the place of the next step never number more than this count", typed or not
pub places_suffice : {T K : ℕ} {r : Rule} {e₀ e e' : Expr} {s₀ s s' : Store}
    → Run T K e₀ s₀ e s → (d : ⟨ e ∣ s ⟩⟶⟨ e' ∣ s' ⟩ r) → enclosing d ≤ places e₀
places_suffice ds d = let p = run_adds_no_places ds in let q = enclosed d in omega arith

pub places_suffice_for_sum : {T K n : ℕ} {e₀ e : Expr} {s₀ s : Store}
    → Run T K e₀ s₀ e s → (p : e overflows_at n) → enclosing_sum p < places e₀
places_suffice_for_sum ds p = let a = run_adds_no_places ds in let b = enclosed_sum p in omega arith

pub places_below_size : (e : Expr) → places e < size e
places_below_size (int n) = omega arith
places_below_size (bool b) = omega arith
places_below_size (e₁ ‹ o # i › e₂) = omega (arith, places_below_size e₁, places_below_size e₂)
places_below_size (if e₁ then' e₂ else e₃) = omega (arith, places_below_size e₁, places_below_size e₂, places_below_size e₃)
places_below_size (l := e) = omega (arith, places_below_size e)
places_below_size (! l) = omega arith
places_below_size skip = omega arith
places_below_size (e₁ ⨾ e₂) = omega (arith, places_below_size e₁, places_below_size e₂)
places_below_size (while e₁ do' e₂ done) = omega (arith, places_below_size e₁, places_below_size e₂)
