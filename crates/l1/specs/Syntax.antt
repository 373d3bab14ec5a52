-- Section 2.3, "Syntax": the grammar of L1, as trees, and the types T.
-- The notes write `e1 op e2`, `if e1 then e2 else e3`, `l := e`, `!l`, `skip`, `e1; e2` and `while e1 do e2 done`. So do we, but for four
-- signs: the `;` is `⨾`, the `do` is `do'`, the `then` is `then'`, and an operator carries the number of the node where it is stored, `e₁ ‹ plus # i › e₂`. 01 names
-- a sum out of range by that number, and the copies that the rule `while` makes keep it. No other form's node is named once a step has been made.
use Rattle.std.specs.Prelude.{ℕ, Bool, ℤ}

infix 50 ◌‹◌#◌›◌
infix 40 if◌then'◌else◌
infix 40 ◌:=◌
infix 60 !◌
infixr 30 ◌⨾◌
infix 40 while◌do'◌done
-- op ::= + | ≥
pub data Op : Type 0 where
  plus geq : Op

-- locations l0, l1, l2, .. by their numbers
abbrev pub Loc : Type 0
Loc = ℕ

pub data Expr : Type 0 where
  int : ℤ → Expr
  bool : Bool → Expr
  ◌‹◌#◌›◌ : Expr → Op → ℕ → Expr → Expr
  if◌then'◌else◌ : Expr → Expr → Expr → Expr
  ◌:=◌ : Loc → Expr → Expr
  !◌ : Loc → Expr
  skip : Expr
  ◌⨾◌ : Expr → Expr → Expr
  while◌do'◌done : Expr → Expr → Expr

-- values v ::= b | n | skip
pub data Value : Expr → Type 0 where
  v_int : {n : ℤ} → Value (int n)
  v_bool : {b : Bool} → Value (bool b)
  v_skip : Value skip

-- T ::= int | bool | unit
pub data Ty : Type 0 where
  ty_int ty_bool ty_unit : Ty
