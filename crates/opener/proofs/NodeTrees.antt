-- A node keeps the layout exactly where a tree stands at it, trees standing at the nodes before it; and what is told of the tree comes from what
-- a table tells of its children.
use Prim.Native.Nat.{ℕ, zero, suc, ◌+◌, ◌≤◌, ◌<◌, min, max}
use native.Mathlib.Omega.{arith}
use mathlib.Core.Path.{◌≡◌, refl}
use mathlib.Core.Bool.{Bool, true, false, ◌&&◌, cond}
use mathlib.Core.List.{List}
use lib.Dec.{eqb, leb}
use borrow.Author.Tests.{eqb-true, eqb-false, leb-true, eq-eqb, le-leb}
use Rattle.l1.proofs.Clash.{clash}
use Rattle.l1.specs.Syntax.{plus, geq, Expr, ◌‹◌#◌›◌, if◌then'◌else◌, ◌:=◌, ◌⨾◌, while◌do'◌done}
use Rattle.l1.specs.Measures.{size, places}
use Rattle.l1.proofs.Places.{places_below_size}
use Rattle.stored.specs.Layout.{kind, arg, child1, child2, child3, NodeIs, TreeAt}
use Rattle.stored.specs.Layout.{at_int, at_bool, at_op, at_if, at_assign, at_deref, at_skip, at_seq, at_while}
use Rattle.stored.specs.Reader.{tree_at, StandBelow}
use Rattle.stored.proofs.Reader.{read_tree_lem}
use Rattle.routine.specs.declared.Form.{Form}
use Rattle.routine.specs.Forms.{form_of}
use Rattle.opener.specs.Shapes.{Shape, Leaf, Number, One, Two, Three, Nothing, shape_of, children_of, arg_top, placed, places_by}
use Rattle.opener.specs.Subtrees.{Tells}
use Rattle.opener.specs.declared.Subtree.{Subtree}

pub both : (a b : Bool) → a && b ≡ true → (a ≡ true) × (b ≡ true)
both true b e = (refl, e)
both false b e = clash e

three : (a b c d e f : ℕ) → eqb a b && eqb c d && eqb e f ≡ true → (a ≡ b) × (c ≡ d) × (e ≡ f)
three a b c d e f t =
    let u = both (eqb a b && eqb c d) (eqb e f) t in
    let v = both (eqb a b) (eqb c d) u.0 in
    (eqb-true a b v.0, eqb-true c d v.1, eqb-true e f u.1)

-- what `placed` tells
abbrev pub Placed : Shape → ℕ → ℕ → ℕ → ℕ → ℕ → ℕ → Type 0
Placed Leaf i x y z q r = (x ≡ 0) × (y ≡ 0) × (z ≡ 0)
Placed Number i x y z q r = x ≡ 0
Placed One i x y z q r = (x + 1 ≡ i) × (y ≡ 0) × (z ≡ 0)
Placed Two i x y z q r = (y + 1 ≡ i) × (x + 1 ≡ q) × (z ≡ 0)
Placed Three i x y z q r = (z + 1 ≡ i) × (y + 1 ≡ r) × (x + 1 ≡ q)
Placed Nothing i x y z q r = ⊥

pub placed_true : (h : Shape) (i x y z q r : ℕ) → placed h i x y z q r ≡ true → Placed h i x y z q r
placed_true Leaf i x y z q r e = three x 0 y 0 z 0 e
placed_true Number i x y z q r e = eqb-true x 0 e
placed_true One i x y z q r e = three (x + 1) i y 0 z 0 e
placed_true Two i x y z q r e = three (y + 1) i (x + 1) q z 0 e
placed_true Three i x y z q r e = three (z + 1) i (y + 1) r (x + 1) q e
placed_true Nothing i x y z q r e = clash e

bit : (a : ℕ) → a ≤ 1 → a ≡ cond (eqb a 1) 1 0
bit a h = go (eqb a 1) refl
  where
    go : (t : Bool) → eqb a 1 ≡ t → a ≡ cond t 1 0
    go true e = eqb-true a 1 e
    go false e = omega (arith, eqb-false a 1 e)

-- s tells of the trees at the nodes before i
abbrev pub TellsOf : List ℕ → ℕ → (ℕ → Subtree) → Type 0
TellsOf b i s = (j : ℕ) → j < i → Tells j (tree_at b j) (s j)

-- `keeps_node` of node i, with a for its byte 1
abbrev pub keeps_by : List ℕ → ℕ → (ℕ → Subtree) → ℕ → Bool
keeps_by b i s a =
    placed (shape_of (form_of (kind b i))) i (child1 b i) (child2 b i) (child3 b i) (s (child2 b i)).low (s (child3 b i)).low
    && leb a (arg_top (form_of (kind b i)))

-- the lowest node of the subtree of node i, of a form whose first child has p
abbrev pub low_by : Form → ℕ → ℕ → ℕ
low_by f i p = cond (leb 1 (children_of (shape_of f))) p i

module _ (b : List ℕ) (s : ℕ → Subtree) {i : ℕ} (h : TellsOf b i s) where
  held : {x : ℕ} {e : Expr} → TreeAt b x e → x < i → Tells x e (s x)
  held {x} {e} t l = let q : tree_at b x ≡ e = read_tree_lem b (x + 1) t (omega arith) in rw q at (h x l)

  -- where a node has no child, node 0 is read, which has no places
  none_there : 0 < i → (s 0).places ≡ 0
  none_there l = let w = h 0 l in omega (arith, w.its_low, w.its_places, places_below_size (tree_at b 0))

  -- l and p are the lowest node and the places of the tree e at node i
  abbrev Told : Expr → ℕ → ℕ → Type 0
  Told e l p = (l + size e ≡ i + 1) × (p ≡ places e)

  one_by : (e : Expr) {x : ℕ} {e₁ : Expr} → TreeAt b x e₁ → x + 1 ≡ i → size e ≡ 1 + size e₁ → places e ≡ 1 + places e₁
      → Told e (s x).low (max (max ((s x).places + 1) (s 0).places) ((s 0).places + 0))
  one_by e t p n d =
      let w = held t (omega arith) in
      let f = none_there (omega arith) in
      (omega (arith, w.its_low), omega (arith, w.its_places))

  -- with c more for the second part where that is inside the form
  two_by : (e : Expr) (c : ℕ) {x y : ℕ} {e₁ e₂ : Expr} → TreeAt b x e₁ → TreeAt b y e₂ → y + 1 ≡ i → x + size e₂ ≡ y
      → size e ≡ 1 + size e₁ + size e₂ → places e ≡ max (places e₁ + 1) (places e₂ + c)
      → Told e (s x).low (max (max ((s x).places + 1) (s 0).places) ((s y).places + c))
  two_by e c t₁ t₂ p q n d =
      let w₁ = held t₁ (omega arith) in
      let w₂ = held t₂ (omega arith) in
      let f = none_there (omega arith) in
      (omega (arith, w₁.its_low), omega (arith, w₁.its_places, w₂.its_places))

  three_by : (e : Expr) {x y z : ℕ} {e₁ e₂ e₃ : Expr} → TreeAt b x e₁ → TreeAt b y e₂ → TreeAt b z e₃
      → z + 1 ≡ i → y + size e₃ ≡ z → x + size e₂ ≡ y
      → size e ≡ 1 + size e₁ + size e₂ + size e₃ → places e ≡ max (places e₁ + 1) (max (places e₂) (places e₃))
      → Told e (s x).low (max (max ((s x).places + 1) (s z).places) ((s y).places + 0))
  three_by e t₁ t₂ t₃ p q r n d =
      let w₁ = held t₁ (omega arith) in
      let w₂ = held t₂ (omega arith) in
      let w₃ = held t₃ (omega arith) in
      (omega (arith, w₁.its_low), omega (arith, w₁.its_places, w₂.its_places, w₃.its_places))

  -- what is told of a tree, from what is told of its children
  pub told_by : {e : Expr} → TreeAt b i e
      → Told e (low_by (form_of (kind b i)) i (s (child1 b i)).low)
      (places_by (form_of (kind b i)) (s (child1 b i)).places (s (child2 b i)).places (s (child3 b i)).places)
  told_by (at_int n v) = rw n.its_kind (refl, refl)
  told_by (at_bool n) = rw n.its_kind (refl, refl)
  told_by (at_op {o = plus} {e₁ = e₁} {e₂ = e₂} n p q t₁ t₂) =
      rw (n.its_kind, n.its_first, n.its_second, n.its_third) (two_by (e₁ ‹ plus # i › e₂) 1 t₁ t₂ p q refl (omega arith))
  told_by (at_op {o = geq} {e₁ = e₁} {e₂ = e₂} n p q t₁ t₂) =
      rw (n.its_kind, n.its_first, n.its_second, n.its_third) (two_by (e₁ ‹ geq # i › e₂) 1 t₁ t₂ p q refl (omega arith))
  told_by (at_if {e₁ = e₁} {e₂ = e₂} {e₃ = e₃} n p q r t₁ t₂ t₃) =
      rw (n.its_kind, n.its_first, n.its_second, n.its_third) (three_by (if e₁ then' e₂ else e₃) t₁ t₂ t₃ p q r refl refl)
  told_by (at_assign {l = l} {e = e} n p t) =
      rw (n.its_kind, n.its_first, n.its_second, n.its_third) (one_by (l := e) t p refl refl)
  told_by (at_deref n) = rw n.its_kind (refl, refl)
  told_by (at_skip n) = rw n.its_kind (refl, refl)
  told_by (at_seq {e₁ = e₁} {e₂ = e₂} n p q t₁ t₂) =
      rw (n.its_kind, n.its_first, n.its_second, n.its_third) (two_by (e₁ ⨾ e₂) 0 t₁ t₂ p q refl (omega arith))
  told_by (at_while {e₁ = e₁} {e₂ = e₂} n p q t₁ t₂) =
      rw (n.its_kind, n.its_first, n.its_second, n.its_third) (two_by (while e₁ do' e₂ done) 1 t₁ t₂ p q refl (omega arith))

  -- the child before y stands right before y's subtree
  before : (x : ℕ) {y : ℕ} {e : Expr} → y < i → x + size e ≡ y → TreeAt b y e → x + 1 ≡ (s y).low
  before x l q t = let w = held t l in omega (arith, w.its_low)

  two_kept : (x : ℕ) {y : ℕ} {e : Expr} → y + 1 ≡ i → x + size e ≡ y → TreeAt b y e
      → eqb (y + 1) i && eqb (x + 1) (s y).low && true && true ≡ true
  two_kept x p q t = rw (eq-eqb _ _ p, eq-eqb _ _ (before x (omega arith) q t))

  -- where a tree stands the node keeps the layout, a byte 1 past 255 being taken for 255
  pub stands_keeps : {e : Expr} → TreeAt b i e → keeps_by b i s (min (arg b i) 255) ≡ true
  stands_keeps (at_int n v) = rw (n.its_kind, n.its_arg, n.its_first)
  stands_keeps (at_bool {t = true} n) = rw (n.its_kind, n.its_arg, n.its_first, n.its_second, n.its_third)
  stands_keeps (at_bool {t = false} n) = rw (n.its_kind, n.its_arg, n.its_first, n.its_second, n.its_third)
  stands_keeps (at_op {o = plus} {x = x} n p q t₁ t₂) =
      rw (n.its_kind, n.its_arg, n.its_first, n.its_second, n.its_third) (two_kept x p q t₂)
  stands_keeps (at_op {o = geq} {x = x} n p q t₁ t₂) =
      rw (n.its_kind, n.its_arg, n.its_first, n.its_second, n.its_third) (two_kept x p q t₂)
  stands_keeps (at_if {x = x} {y = y} n p q r t₁ t₂ t₃) =
      rw (n.its_kind, n.its_arg, n.its_first, n.its_second, n.its_third)
      (rw (eq-eqb _ _ p, eq-eqb _ _ (before y (omega arith) q t₃), eq-eqb _ _ (before x (omega arith) r t₂)))
  stands_keeps (at_assign n p t) =
      rw (n.its_kind, n.its_first, n.its_second, n.its_third, le-leb (min (arg b i) 255) 255 (omega arith), eq-eqb _ _ p)
  stands_keeps (at_deref n) =
      rw (n.its_kind, n.its_first, n.its_second, n.its_third, le-leb (min (arg b i) 255) 255 (omega arith))
  stands_keeps (at_skip n) = rw (n.its_kind, n.its_arg, n.its_first, n.its_second, n.its_third)
  stands_keeps (at_seq {x = x} n p q t₁ t₂) =
      rw (n.its_kind, n.its_arg, n.its_first, n.its_second, n.its_third) (two_kept x p q t₂)
  stands_keeps (at_while {x = x} n p q t₁ t₂) =
      rw (n.its_kind, n.its_arg, n.its_first, n.its_second, n.its_third) (two_kept x p q t₂)

-- a node that keeps the layout, by its kind
module _ (b : List ℕ) {i : ℕ} (below : StandBelow b i) (s : ℕ → Subtree) (h : TellsOf b i s) where
  standing : {e : Expr} → TreeAt b i e → TreeAt b i (tree_at b i)
  standing t = rw (read_tree_lem b (i + 1) t (omega arith)) t

  two_stand : {k : ℕ} {e : Expr} → kind b i ≡ k → min (arg b i) 255 ≤ 0
      → Placed Two i (child1 b i) (child2 b i) (child3 b i) (s (child2 b i)).low (s (child3 b i)).low
      → (NodeIs b i k 0 (child1 b i) (child2 b i) 0
      → child2 b i + 1 ≡ i → child1 b i + size (tree_at b (child2 b i)) ≡ child2 b i
      → TreeAt b (child1 b i) (tree_at b (child1 b i)) → TreeAt b (child2 b i) (tree_at b (child2 b i))
      → TreeAt b i e)
      → TreeAt b i (tree_at b i)
  two_stand k a p at =
      let w = (h (child2 b i) (omega arith)).its_low in
      standing
      (at (record { its_kind = k; its_arg = omega arith; its_first = refl; its_second = refl; its_third = p.2 })
      p.0 (omega arith)
      (below (child1 b i) (omega arith)) (below (child2 b i) (omega arith)))

  by_kind : (k : ℕ) → kind b i ≡ k → min (arg b i) 255 ≤ arg_top (form_of k)
      → Placed (shape_of (form_of k)) i (child1 b i) (child2 b i) (child3 b i) (s (child2 b i)).low (s (child3 b i)).low
      → TreeAt b i (tree_at b i)
  by_kind zero k a p =
      standing (at_int (record { its_kind = k; its_arg = omega arith; its_first = p; its_second = refl; its_third = refl }) refl)
  by_kind (suc zero) k a p =
      standing
      (at_bool {t = eqb (arg b i) 1}
      (record { its_kind = k; its_arg = bit (arg b i) (omega arith); its_first = p.0; its_second = p.1; its_third = p.2 }))
  by_kind (suc (suc zero)) k a p = two_stand k a p (at_op {o = plus})
  by_kind (suc (suc (suc zero))) k a p = two_stand k a p (at_op {o = geq})
  by_kind (suc (suc (suc (suc zero)))) k a p =
      let v = (h (child3 b i) (omega arith)).its_low in
      let w = (h (child2 b i) (omega arith)).its_low in
      standing
      (at_if (record { its_kind = k; its_arg = omega arith; its_first = refl; its_second = refl; its_third = refl })
      p.0 (omega arith) (omega arith)
      (below (child1 b i) (omega arith)) (below (child2 b i) (omega arith)) (below (child3 b i) (omega arith)))
  by_kind (suc (suc (suc (suc (suc zero))))) k a p =
      standing
      (at_assign (record { its_kind = k; its_arg = refl; its_first = refl; its_second = p.1; its_third = p.2 })
      p.0 (below (child1 b i) (omega arith)))
  by_kind (suc (suc (suc (suc (suc (suc zero)))))) k a p =
      standing (at_deref (record { its_kind = k; its_arg = refl; its_first = p.0; its_second = p.1; its_third = p.2 }))
  by_kind (suc (suc (suc (suc (suc (suc (suc zero))))))) k a p =
      standing (at_skip (record { its_kind = k; its_arg = omega arith; its_first = p.0; its_second = p.1; its_third = p.2 }))
  by_kind (suc (suc (suc (suc (suc (suc (suc (suc zero)))))))) k a p = two_stand k a p at_seq
  by_kind (suc (suc (suc (suc (suc (suc (suc (suc (suc zero))))))))) k a p = two_stand k a p at_while
  by_kind (suc (suc (suc (suc (suc (suc (suc (suc (suc (suc m)))))))))) k a p = absurd p

  -- where the node keeps the layout a tree stands
  pub keeps_stands : (a : ℕ) → min (arg b i) 255 ≤ a → keeps_by b i s a ≡ true → TreeAt b i (tree_at b i)
  keeps_stands a l e =
      let F = form_of (kind b i) in
      let c = both (placed (shape_of F) i (child1 b i) (child2 b i) (child3 b i) (s (child2 b i)).low (s (child3 b i)).low) (leb a (arg_top F)) e in
      by_kind (kind b i) refl (omega (arith, leb-true a (arg_top F) c.1))
      (placed_true (shape_of F) i (child1 b i) (child2 b i) (child3 b i) (s (child2 b i)).low (s (child3 b i)).low c.0)
