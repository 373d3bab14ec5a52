-- Where a tree stands at a node, reading the node gives it; so one tree at most stands at a node.
use Prim.Native.Nat.{ℕ, zero, suc, ◌+◌, ◌<◌}
use native.Mathlib.Omega.{arith}
use mathlib.Core.Path.{◌≡◌, refl, sym, ◌∙◌}
use mathlib.Core.Bool.{Bool, true, false, cond}
use mathlib.Core.List.{List}
use lib.Dec.{eqb}
use Rattle.l1.specs.Syntax.{plus, geq, Expr}
use Rattle.stored.specs.Layout.{TreeAt, at_int, at_bool, at_op, at_if, at_assign, at_deref, at_skip, at_seq, at_while}
use Rattle.stored.specs.Reader.{read_tree}
use Rattle.stored.specs.Refusals.{Holds}

bit : (t : Bool) → eqb (cond t 1 0) 1 ≡ t
bit true = refl
bit false = refl

module _ (b : List ℕ) where
  pub read_tree_lem : {i : ℕ} {e : Expr} (d : ℕ) → TreeAt b i e → i < d → read_tree d b i ≡ e
  unfolding read_tree
  read_tree_lem zero t l = absurd (omega arith)
  read_tree_lem (suc d) (at_int n v) l = rw (n.its_kind, n.its_second, n.its_third, v)
  read_tree_lem (suc d) (at_bool {t = t} n) l = rw (n.its_kind, n.its_arg, bit t)
  read_tree_lem (suc d) (at_op {o = plus} n p q t₁ t₂) l =
      rw (n.its_kind, n.its_first, n.its_second, read_tree_lem d t₁ (omega arith), read_tree_lem d t₂ (omega arith))
  read_tree_lem (suc d) (at_op {o = geq} n p q t₁ t₂) l =
      rw (n.its_kind, n.its_first, n.its_second, read_tree_lem d t₁ (omega arith), read_tree_lem d t₂ (omega arith))
  read_tree_lem (suc d) (at_if n p q r t₁ t₂ t₃) l =
      rw (n.its_kind, n.its_first, n.its_second, n.its_third)
      (rw (read_tree_lem d t₁ (omega arith), read_tree_lem d t₂ (omega arith), read_tree_lem d t₃ (omega arith)))
  read_tree_lem (suc d) (at_assign n p t) l = rw (n.its_kind, n.its_arg, n.its_first, read_tree_lem d t (omega arith))
  read_tree_lem (suc d) (at_deref n) l = rw (n.its_kind, n.its_arg)
  read_tree_lem (suc d) (at_skip n) l = rw n.its_kind
  read_tree_lem (suc d) (at_seq n p q t₁ t₂) l =
      rw (n.its_kind, n.its_first, n.its_second, read_tree_lem d t₁ (omega arith), read_tree_lem d t₂ (omega arith))
  read_tree_lem (suc d) (at_while n p q t₁ t₂) l =
      rw (n.its_kind, n.its_first, n.its_second, read_tree_lem d t₁ (omega arith), read_tree_lem d t₂ (omega arith))

  pub tree_unique : {i : ℕ} {e e' : Expr} → TreeAt b i e → TreeAt b i e' → e ≡ e'
  tree_unique {i} t t' = sym (read_tree_lem (i + 1) t (omega arith)) ∙ read_tree_lem (i + 1) t' (omega arith)

  pub holds_unique : {e e' : Expr} → Holds b e → Holds b e' → e ≡ e'
  holds_unique {e} {e'} h h' =
      let r : h.root ≡ h'.root = omega (arith, h.is_last, h'.is_last) in
      tree_unique (rw r at h.tree) h'.tree
