-- A typed expression reads and writes declared locations alone.
use Rattle.l1.specs.Syntax.{Loc, Expr, Ty}
use Rattle.l1.specs.Typing.{TypeEnv, ◌declares◌, ◌⊢◌∶◌, t_int, t_bool, t_op+, t_op≥, t_if, t_assign, t_deref, t_skip, t_seq, t_while}
use Rattle.l1.specs.Sets.{Use, reading, writing, uses_of_deref, uses_of_assign, uses}
use Rattle.l1.proofs.Membership.{All, all_of_none, all_of_one, all_of_both}

deref_declared : {Γ : TypeEnv} {l : Loc} (u : Use) → Γ declares l → All (◌declares◌ Γ) (uses_of_deref u l)
deref_declared reading h = all_of_one h
deref_declared writing h = all_of_none

assign_declared : {Γ : TypeEnv} {l : Loc} (u : Use) → Γ declares l → All (◌declares◌ Γ) (uses_of_assign u l)
assign_declared reading h = all_of_none
assign_declared writing h = all_of_one h

pub uses_declared : {Γ : TypeEnv} {e : Expr} {T : Ty} (u : Use) → Γ ⊢ e ∶ T → All (◌declares◌ Γ) (uses u e)
uses_declared u t_int = all_of_none
uses_declared u t_bool = all_of_none
uses_declared u (t_op+ a b) = all_of_both (uses_declared u a) (uses_declared u b)
uses_declared u (t_op≥ a b) = all_of_both (uses_declared u a) (uses_declared u b)
uses_declared u (t_if a b c) = all_of_both (all_of_both (uses_declared u a) (uses_declared u b)) (uses_declared u c)
uses_declared u (t_assign h a) = all_of_both (uses_declared u a) (assign_declared u h)
uses_declared u (t_deref h) = deref_declared u h
uses_declared u t_skip = all_of_none
uses_declared u (t_seq a b) = all_of_both (uses_declared u a) (uses_declared u b)
uses_declared u (t_while a b) = all_of_both (uses_declared u a) (uses_declared u b)
