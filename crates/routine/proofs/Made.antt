-- A tree that stands at a node is made by the node's form from the trees of its children, which stand before it.
use Prim.Native.Nat.{ℕ, ◌+◌}
use native.Mathlib.Omega.{arith}
use mathlib.Core.Path.{◌≡◌, refl}
use mathlib.Core.Bool.{Bool, true, false, cond}
use mathlib.Core.List.{List}
use lib.Dec.{eqb}
use Rattle.l1.specs.Syntax.{plus, geq, Expr}
use Rattle.stored.specs.Layout.{kind, TreeAt, at_int, at_bool, at_op, at_if, at_assign, at_deref, at_skip, at_seq, at_while}
use Rattle.stored.specs.Reader.{tree_at}
use Rattle.stored.proofs.Reader.{read_tree_lem}
use Rattle.routine.specs.Forms.{form_of, make, Before}

module _ (b : List ℕ) where
  child : {j : ℕ} {e : Expr} → TreeAt b j e → tree_at b j ≡ e
  child {j} t = read_tree_lem b (j + 1) t (omega arith)

  bit : (t : Bool) → eqb (cond t 1 0) 1 ≡ t
  bit true = refl
  bit false = refl

  -- the tree, by the form
  pub made : {i : ℕ} {e : Expr} → TreeAt b i e → e ≡ make (form_of (kind b i)) b i (tree_at b)
  made (at_int n v) = rw (n.its_kind, n.its_second, n.its_third, v)
  made (at_bool {t = t} n) = rw (n.its_kind, n.its_arg, bit t)
  made (at_op {o = plus} n p q t₁ t₂) = rw (n.its_kind, n.its_first, n.its_second, child t₁, child t₂)
  made (at_op {o = geq} n p q t₁ t₂) = rw (n.its_kind, n.its_first, n.its_second, child t₁, child t₂)
  made (at_if n p q r t₁ t₂ t₃) = rw (n.its_kind, n.its_first, n.its_second, n.its_third, child t₁, child t₂, child t₃)
  made (at_assign n p t) = rw (n.its_kind, n.its_arg, n.its_first, child t)
  made (at_deref n) = rw (n.its_kind, n.its_arg)
  made (at_skip n) = rw n.its_kind
  made (at_seq n p q t₁ t₂) = rw (n.its_kind, n.its_first, n.its_second, child t₁, child t₂)
  made (at_while n p q t₁ t₂) = rw (n.its_kind, n.its_first, n.its_second, child t₁, child t₂)

  pub before : {i : ℕ} {e : Expr} → TreeAt b i e → Before (form_of (kind b i)) b i
  before (at_int n v) = rw n.its_kind tt
  before (at_bool n) = rw n.its_kind tt
  before (at_op {o = plus} n p q t₁ t₂) = rw (n.its_kind, n.its_first, n.its_second) (omega arith, omega arith)
  before (at_op {o = geq} n p q t₁ t₂) = rw (n.its_kind, n.its_first, n.its_second) (omega arith, omega arith)
  before (at_if n p q r t₁ t₂ t₃) = rw (n.its_kind, n.its_first, n.its_second, n.its_third) (omega arith, omega arith, omega arith)
  before (at_assign n p t) = rw (n.its_kind, n.its_first) (omega arith)
  before (at_deref n) = rw n.its_kind tt
  before (at_skip n) = rw n.its_kind tt
  before (at_seq n p q t₁ t₂) = rw (n.its_kind, n.its_first, n.its_second) (omega arith, omega arith)
  before (at_while n p q t₁ t₂) = rw (n.its_kind, n.its_first, n.its_second) (omega arith, omega arith)
