-- A value makes no step, and its next act is no overflow.
use Prim.Native.Nat.{ℕ}
use Rattle.l1.specs.Syntax.{Expr, Value, v_int, v_bool, v_skip}
use Rattle.l1.specs.Store.{Store}
use Rattle.l1.specs.Steps.{Rule, ⟨◌∣◌⟩⟶⟨◌∣◌⟩◌}
use Rattle.l1.specs.Overflow.{◌overflows_at◌}

pub value_makes_no_step : {r : Rule} {e e' : Expr} {s s' : Store} → Value e → ⟨ e ∣ s ⟩⟶⟨ e' ∣ s' ⟩ r → ⊥
value_makes_no_step v_int d = elim d [ ]
value_makes_no_step v_bool d = elim d [ ]
value_makes_no_step v_skip d = elim d [ ]

pub value_is_no_overflow : {e : Expr} {n : ℕ} → Value e → e overflows_at n → ⊥
value_is_no_overflow v_int p = elim p [ ]
value_is_no_overflow v_bool p = elim p [ ]
value_is_no_overflow v_skip p = elim p [ ]
