-- 02, request 2: "the forms enclosing the place of the next step". The rules of 2.3 that only say where the work is done (op1, op2, assign2,
-- seq2, if3) each go into one part of a form; the others do the work where they stand.
use Rattle.std.specs.Prelude.{ℕ, ◌+◌}
use Rattle.l1.specs.Syntax.{Expr}
use Rattle.l1.specs.Store.{Store}
use Rattle.l1.specs.Steps.{Rule, ⟨◌∣◌⟩⟶⟨◌∣◌⟩◌, op+, op≥, op1, op2, deref, assign1, assign2, seq1, seq2, if1, if2, if3, while}
use Rattle.l1.specs.Overflow.{◌overflows_at◌, over, over_op1, over_op2, over_assign2, over_seq2, over_if3}

abbrev pub enclosing : {r : Rule} {e e' : Expr} {s s' : Store} → ⟨ e ∣ s ⟩⟶⟨ e' ∣ s' ⟩ r → ℕ
enclosing (op+ q h) = 0
enclosing (op≥ q) = 0
enclosing (op1 d) = 1 + enclosing d
enclosing (op2 v d) = 1 + enclosing d
enclosing (deref h q) = 0
enclosing (assign1 h) = 0
enclosing (assign2 d) = 1 + enclosing d
enclosing seq1 = 0
enclosing (seq2 d) = 1 + enclosing d
enclosing if1 = 0
enclosing if2 = 0
enclosing (if3 d) = 1 + enclosing d
enclosing (while) = 0

-- the same of a sum out of range, where the next act is no step
abbrev pub enclosing_sum : {e : Expr} {n : ℕ} → e overflows_at n → ℕ
enclosing_sum (over h) = 0
enclosing_sum (over_op1 p) = 1 + enclosing_sum p
enclosing_sum (over_op2 v p) = 1 + enclosing_sum p
enclosing_sum (over_assign2 p) = 1 + enclosing_sum p
enclosing_sum (over_seq2 p) = 1 + enclosing_sum p
enclosing_sum (over_if3 p) = 1 + enclosing_sum p
