-- The verdict of Refused.antt, computed node by node: `verdict`. proofs/Verdict.antt has both directions.
use Rattle.std.specs.Prelude.{ℕ, zero, suc, cond, List, [], ◌∷◌, eqb, ltb}
use Rattle.l1.specs.Syntax.{plus, geq, Loc, Expr, int, bool, ◌‹◌#◌›◌, if◌then'◌else◌, ◌:=◌, !◌, skip, ◌⨾◌, while◌do'◌done, Ty, ty_int, ty_bool, ty_unit}
use Rattle.l1.specs.Typing.{TypeEnv}
use Rattle.l1.specs.Refused.{nodes, Verdict, typed, refused}

-- the type that the rule of a form gives, where its premises hold
unfoldable pub rule_type : Expr → Ty
rule_type (int n) = ty_int
rule_type (bool b) = ty_bool
rule_type (e₁ ‹ plus # i › e₂) = ty_int
rule_type (e₁ ‹ geq # i › e₂) = ty_bool
rule_type (if e₁ then' e₂ else e₃) = rule_type e₂
rule_type (l := e) = ty_unit
rule_type (! l) = ty_int
rule_type skip = ty_unit
rule_type (e₁ ⨾ e₂) = rule_type e₂
rule_type (while e₁ do' e₂ done) = ty_unit

-- types by numbers, to compare them
abbrev pub type_no : Ty → ℕ
type_no ty_int = 0
type_no ty_bool = 1
type_no ty_unit = 2

-- c where e has not the type T, and else what the rest of the rule gives
abbrev pub wants : Ty → Expr → ℕ → ℕ → ℕ
wants T e c rest = cond (eqb (type_no (rule_type e)) (type_no T)) rest c

abbrev pub declared : TypeEnv → Loc → ℕ → ℕ
declared Γ l rest = cond (ltb l Γ.locations) rest 20

-- the lowest number by which the rule of the form e itself fails, 0 where it does not fail, from the children's types
unfoldable pub fault : TypeEnv → Expr → ℕ
fault Γ (int n) = 0
fault Γ (bool b) = 0
fault Γ (e₁ ‹ o # i › e₂) = wants ty_int e₁ 21 (wants ty_int e₂ 22 0)
fault Γ (if e₁ then' e₂ else e₃) = wants ty_bool e₁ 21 (wants (rule_type e₂) e₃ 23 0)
fault Γ (l := e) = declared Γ l (wants ty_int e 21 0)
fault Γ (! l) = declared Γ l 0
fault Γ skip = 0
fault Γ (e₁ ⨾ e₂) = wants ty_unit e₁ 21 0
fault Γ (while e₁ do' e₂ done) = wants ty_bool e₁ 21 (wants ty_unit e₂ 22 0)

-- refused by c at node i, unless c is 0
abbrev pub unless_fault : ℕ → ℕ → Verdict → Verdict
unless_fault zero i v = v
unless_fault (suc c) i v = refused (suc c) i

-- the first of the nodes ds, numbered from i, that has a fault, and else v
unfoldable pub first_fault : TypeEnv → List Expr → ℕ → Verdict → Verdict
first_fault Γ [] i v = v
first_fault Γ (d ∷ ds) i v = unless_fault (fault Γ d) i (first_fault Γ ds (suc i) v)

unfoldable pub verdict : TypeEnv → Expr → Verdict
verdict Γ e = first_fault Γ (nodes e) 0 (typed (rule_type e))
