-- At most one thing is next: the expression is a value, or a sum overflows at one node, or one step is made.
use Prim.Native.Nat.{ℕ}
use mathlib.Core.Path.{◌≡◌, refl, ap}
use Rattle.l1.specs.Syntax.{Expr}
use Rattle.l1.specs.Store.{Store}
use Rattle.l1.specs.Steps.{Rule, ⟨◌∣◌⟩⟶⟨◌∣◌⟩◌, op+, op≥, op1, op2, assign1, assign2, seq1, seq2, if1, if2, if3}
use Rattle.l1.specs.Overflow.{◌overflows_at◌, over, over_op1, over_op2, over_assign2, over_seq2, over_if3}
use Rattle.l1.specs.Next.{Act, overflows, steps, Does, does_end, does_overflow, does_step}
use Rattle.l1.proofs.Range.{not_both}
use Rattle.l1.proofs.Values.{value_makes_no_step, value_is_no_overflow}
use Rattle.l1.proofs.Determinism.{determinism}

pub overflow_at_one_node : {e : Expr} {n n' : ℕ} → e overflows_at n → e overflows_at n' → n ≡ n'
overflow_at_one_node (over h) (over h') = refl
overflow_at_one_node (over h) (over_op1 q) = elim q [ ]
overflow_at_one_node (over h) (over_op2 v q) = elim q [ ]
overflow_at_one_node (over_op1 p) (over h) = elim p [ ]
overflow_at_one_node (over_op1 p) (over_op1 q) = overflow_at_one_node p q
overflow_at_one_node (over_op1 p) (over_op2 v q) = absurd (value_is_no_overflow v p)
overflow_at_one_node (over_op2 v p) (over h) = elim p [ ]
overflow_at_one_node (over_op2 v p) (over_op1 q) = absurd (value_is_no_overflow v q)
overflow_at_one_node (over_op2 v p) (over_op2 v' q) = overflow_at_one_node p q
overflow_at_one_node (over_assign2 p) (over_assign2 q) = overflow_at_one_node p q
overflow_at_one_node (over_seq2 p) (over_seq2 q) = overflow_at_one_node p q
overflow_at_one_node (over_if3 p) (over_if3 q) = overflow_at_one_node p q

pub overflow_makes_no_step : {r : Rule} {e e' : Expr} {s s' : Store} {n : ℕ} → e overflows_at n → ⟨ e ∣ s ⟩⟶⟨ e' ∣ s' ⟩ r → ⊥
overflow_makes_no_step (over k) (op+ q h) = not_both h (rw (← q) at k)
overflow_makes_no_step (over k) (op1 d) = elim d [ ]
overflow_makes_no_step (over k) (op2 v d) = elim d [ ]
overflow_makes_no_step (over_op1 p) (op+ q h) = elim p [ ]
overflow_makes_no_step (over_op1 p) (op≥ q) = elim p [ ]
overflow_makes_no_step (over_op1 p) (op1 d) = overflow_makes_no_step p d
overflow_makes_no_step (over_op1 p) (op2 v d) = value_is_no_overflow v p
overflow_makes_no_step (over_op2 v p) (op+ q h) = elim p [ ]
overflow_makes_no_step (over_op2 v p) (op≥ q) = elim p [ ]
overflow_makes_no_step (over_op2 v p) (op1 d) = value_makes_no_step v d
overflow_makes_no_step (over_op2 v p) (op2 v' d) = overflow_makes_no_step p d
overflow_makes_no_step (over_assign2 p) (assign1 h) = elim p [ ]
overflow_makes_no_step (over_assign2 p) (assign2 d) = overflow_makes_no_step p d
overflow_makes_no_step (over_seq2 p) seq1 = elim p [ ]
overflow_makes_no_step (over_seq2 p) (seq2 d) = overflow_makes_no_step p d
overflow_makes_no_step (over_if3 p) if1 = elim p [ ]
overflow_makes_no_step (over_if3 p) if2 = elim p [ ]
overflow_makes_no_step (over_if3 p) (if3 d) = overflow_makes_no_step p d

same_step : {r r' : Rule} {e e' : Expr} {s s' : Store} → r ≡ r' → e ≡ e' → s ≡ s' → steps r e s ≡ steps r' e' s'
same_step p q w = rw (p, q, w)

pub only_one_act : {e : Expr} {s : Store} {x y : Act} → Does e s x → Does e s y → x ≡ y
only_one_act (does_end v) (does_end v') = refl
only_one_act (does_end v) (does_overflow q) = absurd (value_is_no_overflow v q)
only_one_act (does_end v) (does_step d) = absurd (value_makes_no_step v d)
only_one_act (does_overflow p) (does_end v) = absurd (value_is_no_overflow v p)
only_one_act (does_overflow p) (does_overflow q) = ap overflows (overflow_at_one_node p q)
only_one_act (does_overflow p) (does_step d) = absurd (overflow_makes_no_step p d)
only_one_act (does_step d) (does_end v) = absurd (value_makes_no_step v d)
only_one_act (does_step d) (does_overflow q) = absurd (overflow_makes_no_step q d)
only_one_act (does_step d) (does_step d') = let (p, q, w) = determinism d d' in same_step p q w
