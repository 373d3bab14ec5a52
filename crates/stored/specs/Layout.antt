-- 01, "The stored routine", read from the bytes: which tree stands at which node. One clause for each row of the table of kinds. A node at
-- which no tree stands, though one stands at each node before it, is a node that breaks the layout.
use Rattle.std.specs.Prelude.{ℕ, ◌+◌, ◌*◌, ◌≡◌, Bool, cond, List, ℤ}
use Rattle.l1.specs.Syntax.{Op, Loc, Expr, int, bool, ◌‹◌#◌›◌, if◌then'◌else◌, ◌:=◌, !◌, skip, ◌⨾◌, while◌do'◌done}
use Rattle.l1.specs.Measures.{size}
use Rattle.stored.specs.Bytes.{byte, pair, signed}
use Rattle.stored.specs.Stored.{op_kind}

-- where node i begins
abbrev pub node_start : ℕ → ℕ
node_start i = 6 + 8 * i

abbrev pub kind : List ℕ → ℕ → ℕ
kind b i = byte b (node_start i)

abbrev pub arg : List ℕ → ℕ → ℕ
arg b i = byte b (node_start i + 1)

abbrev pub child1 : List ℕ → ℕ → ℕ
child1 b i = pair b (node_start i + 2)

abbrev pub child2 : List ℕ → ℕ → ℕ
child2 b i = pair b (node_start i + 4)

abbrev pub child3 : List ℕ → ℕ → ℕ
child3 b i = pair b (node_start i + 6)

-- the eight bytes of node i are those of this kind, argument and these children
pub record NodeIs (b : List ℕ) (i k a x y z : ℕ) : Type 0 where
  pub its_kind : kind b i ≡ k
  pub its_arg : arg b i ≡ a
  pub its_first : child1 b i ≡ x
  pub its_second : child2 b i ≡ y
  pub its_third : child3 b i ≡ z

-- "The last child of node i is i−1. The child before child c is c minus the number of nodes in c's subtree."
pub data TreeAt (b : List ℕ) : ℕ → Expr → Type 0 where
  at_int : {i y z : ℕ} {n : ℤ}
      → NodeIs b i 0 0 0 y z → n ≡ signed (y * 65536 + z)
      → TreeAt b i (int n)
  at_bool : {i : ℕ} {t : Bool}
      → NodeIs b i 1 (cond t 1 0) 0 0 0
      → TreeAt b i (bool t)
  at_op : {o : Op} {i x y : ℕ} {e₁ e₂ : Expr}
      → NodeIs b i (op_kind o) 0 x y 0 → y + 1 ≡ i → x + size e₂ ≡ y
      → TreeAt b x e₁ → TreeAt b y e₂
      → TreeAt b i (e₁ ‹ o # i › e₂)
  at_if : {i x y z : ℕ} {e₁ e₂ e₃ : Expr}
      → NodeIs b i 4 0 x y z → z + 1 ≡ i → y + size e₃ ≡ z → x + size e₂ ≡ y
      → TreeAt b x e₁ → TreeAt b y e₂ → TreeAt b z e₃
      → TreeAt b i (if e₁ then' e₂ else e₃)
  at_assign : {i x : ℕ} {l : Loc} {e : Expr}
      → NodeIs b i 5 l x 0 0 → x + 1 ≡ i
      → TreeAt b x e
      → TreeAt b i (l := e)
  at_deref : {i : ℕ} {l : Loc}
      → NodeIs b i 6 l 0 0 0
      → TreeAt b i (! l)
  at_skip : {i : ℕ}
      → NodeIs b i 7 0 0 0 0
      → TreeAt b i skip
  at_seq : {i x y : ℕ} {e₁ e₂ : Expr}
      → NodeIs b i 8 0 x y 0 → y + 1 ≡ i → x + size e₂ ≡ y
      → TreeAt b x e₁ → TreeAt b y e₂
      → TreeAt b i (e₁ ⨾ e₂)
  at_while : {i x y : ℕ} {e₁ e₂ : Expr}
      → NodeIs b i 9 0 x y 0 → y + 1 ≡ i → x + size e₂ ≡ y
      → TreeAt b x e₁ → TreeAt b y e₂
      → TreeAt b i (while e₁ do' e₂ done)
