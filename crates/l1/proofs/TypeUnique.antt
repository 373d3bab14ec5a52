-- An expression has at most one type, the one that the rule of its form gives.
use mathlib.Core.Path.{◌≡◌, refl, sym, ◌∙◌}
use Rattle.l1.specs.Syntax.{Expr, Ty}
use Rattle.l1.specs.Typing.{TypeEnv, ◌⊢◌∶◌, t_int, t_bool, t_op+, t_op≥, t_if, t_assign, t_deref, t_skip, t_seq, t_while}
use Rattle.l1.specs.Judge.{rule_type}

pub typed_rule : {Γ : TypeEnv} {e : Expr} {T : Ty} → Γ ⊢ e ∶ T → T ≡ rule_type e
unfolding rule_type
typed_rule t_int = refl
typed_rule t_bool = refl
typed_rule (t_op+ a b) = refl
typed_rule (t_op≥ a b) = refl
typed_rule (t_if a b c) = typed_rule b
typed_rule (t_assign h a) = refl
typed_rule (t_deref h) = refl
typed_rule t_skip = refl
typed_rule (t_seq a b) = typed_rule b
typed_rule (t_while a b) = refl

pub type_unique : {Γ : TypeEnv} {e : Expr} {T T' : Ty} → Γ ⊢ e ∶ T → Γ ⊢ e ∶ T' → T ≡ T'
type_unique a b = typed_rule a ∙ sym (typed_rule b)
