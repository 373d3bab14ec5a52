-- Section 2.3, "Typing": Γ ⊢ e : T, one clause for each rule, named as there with `t-` before it.
use Rattle.std.specs.Prelude.{ℕ, ◌<◌, Bool, ℤ}
use Rattle.l1.specs.Syntax.{plus, geq, Loc, Expr, int, bool, ◌‹◌#◌›◌, if◌then'◌else◌, ◌:=◌, !◌, skip, ◌⨾◌, while◌do'◌done, Ty, ty_int, ty_bool, ty_unit}

-- Γ, a finite partial function from locations to T_loc. T_loc is intref alone and 01 declares the locations 0 to m − 1, so Γ is told by m.
pub record TypeEnv : Type 0 where
  pub locations : ℕ

-- Γ(l) = intref
infix 20 ◌declares◌
pub record ◌declares◌ (Γ : TypeEnv) (l : Loc) : Type 0 where
  pub below : l < Γ.locations

infix 10 ◌⊢◌∶◌
pub data ◌⊢◌∶◌ (Γ : TypeEnv) : Expr → Ty → Type 0 where
  t_int : {n : ℤ}
      → Γ ⊢ int n ∶ ty_int
  t_bool : {b : Bool}
      → Γ ⊢ bool b ∶ ty_bool
  t_op+ : {i : ℕ} {e₁ e₂ : Expr}
      → Γ ⊢ e₁ ∶ ty_int → Γ ⊢ e₂ ∶ ty_int
      → Γ ⊢ e₁ ‹ plus # i › e₂ ∶ ty_int
  t_op≥ : {i : ℕ} {e₁ e₂ : Expr}
      → Γ ⊢ e₁ ∶ ty_int → Γ ⊢ e₂ ∶ ty_int
      → Γ ⊢ e₁ ‹ geq # i › e₂ ∶ ty_bool
  t_if : {e₁ e₂ e₃ : Expr} {T : Ty}
      → Γ ⊢ e₁ ∶ ty_bool → Γ ⊢ e₂ ∶ T → Γ ⊢ e₃ ∶ T
      → Γ ⊢ if e₁ then' e₂ else e₃ ∶ T
  t_assign : {l : Loc} {e : Expr}
      → Γ declares l → Γ ⊢ e ∶ ty_int
      → Γ ⊢ l := e ∶ ty_unit
  t_deref : {l : Loc}
      → Γ declares l
      → Γ ⊢ ! l ∶ ty_int
  t_skip : Γ ⊢ skip ∶ ty_unit
  t_seq : {e₁ e₂ : Expr} {T : Ty}
      → Γ ⊢ e₁ ∶ ty_unit → Γ ⊢ e₂ ∶ T
      → Γ ⊢ e₁ ⨾ e₂ ∶ T
  t_while : {e₁ e₂ : Expr}
      → Γ ⊢ e₁ ∶ ty_bool → Γ ⊢ e₂ ∶ ty_unit
      → Γ ⊢ while e₁ do' e₂ done ∶ ty_unit
