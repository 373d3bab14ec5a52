-- The length of a text is the sum of what each node itself adds: a tree that stands at a node adds the length of its text.
use Prim.Native.Nat.{ℕ, zero, suc, ◌+◌}
use native.Mathlib.Numerals.{add-one}
use native.Mathlib.Omega.{arith}
use mathlib.Core.Path.{◌≡◌}
use mathlib.Core.Bool.{true, false}
use mathlib.Core.List.{List}
use lib.ListN.{length, length-append}
use Rattle.l1.specs.Syntax.{plus, geq, Expr}
use Rattle.l1.specs.Measures.{size}
use Rattle.l1.specs.Text.{decimal, text}
use Rattle.stored.specs.Layout.{kind, arg, TreeAt, at_int, at_bool, at_op, at_if, at_assign, at_deref, at_skip, at_seq, at_while}
use Rattle.stored.specs.Refusals.{count}
use Rattle.routine.specs.Forms.{form_of, integer_of}
use Rattle.routine.specs.Open.{root_of, Opened}
use Rattle.routine.proofs.Standing.{root_size}
use Rattle.writer.specs.Own.{own_length}

abbrev pub own_at : List ℕ → ℕ → ℕ
own_at b i = own_length (form_of (kind b i)) (arg b i) (integer_of b i)

-- the sum over the nodes below i
abbrev pub length_to : List ℕ → ℕ → ℕ
length_to b zero = 0
length_to b (suc i) = length_to b i + own_at b i

module _ (b : List ℕ) where
  pub length_more : (i : ℕ) → length_to b (i + 1) ≡ length_to b i + own_at b i
  length_more i = rw (add-one i)

  -- node i, which adds w, behind the nodes below j
  turn : (i w j k : ℕ) → own_at b i ≡ w → j ≡ i → k ≡ i + 1 → length_to b k ≡ length_to b j + w
  turn i w j k own p q = rw (q, p, ← own) (length_more i)

  -- the nodes of e, from node f on
  abbrev Adds : ℕ → Expr → Type 0
  Adds f e = length_to b (f + size e) ≡ length_to b f + length (text e)

  two : (i w f : ℕ) (e₁ e₂ : Expr) → own_at b i ≡ w → f + (1 + size e₁ + size e₂) ≡ i + 1 → Adds f e₁ → Adds (f + size e₁) e₂
      → length_to b (f + (1 + size e₁ + size e₂)) ≡ length_to b f + (w + length (text e₁) + length (text e₂))
  two i w f e₁ e₂ own h a₁ a₂ = omega (arith, turn i w (f + size e₁ + size e₂) (f + (1 + size e₁ + size e₂)) own (omega arith) h)

  -- the nodes of a tree that stands at node i are those up to i
  tree : {i : ℕ} {e : Expr} → TreeAt b i e → (f : ℕ) → f + size e ≡ i + 1 → Adds f e
  unfolding text
  tree (at_int {i = i} n v) f h = turn i _ f _ (rw (n.its_kind, n.its_second, n.its_third, v)) (omega arith) h
  tree (at_bool {i = i} {t = true} n) f h = turn i _ f _ (rw (n.its_kind, n.its_arg)) (omega arith) h
  tree (at_bool {i = i} {t = false} n) f h = turn i _ f _ (rw (n.its_kind, n.its_arg)) (omega arith) h
  tree (at_op {o = plus} {i = i} {e₁ = e₁} {e₂ = e₂} n p q t₁ t₂) f h =
      simp length-append (omega (arith, two i 5 f e₁ e₂ (rw n.its_kind) h (tree t₁ f (omega arith)) (tree t₂ (f + size e₁) (omega arith))))
  tree (at_op {o = geq} {i = i} {e₁ = e₁} {e₂ = e₂} n p q t₁ t₂) f h =
      simp length-append (omega (arith, two i 6 f e₁ e₂ (rw n.its_kind) h (tree t₁ f (omega arith)) (tree t₂ (f + size e₁) (omega arith))))
  tree (at_if {i = i} {e₁ = e₁} {e₂ = e₂} {e₃ = e₃} n p q r t₁ t₂ t₃) f h =
      let k = f + size e₁ + size e₂ in
      let own = turn i 17 (k + size e₃) (f + (1 + size e₁ + size e₂ + size e₃)) (rw n.its_kind) (omega arith) h in
      simp length-append (omega (arith, own, tree t₁ f (omega arith), tree t₂ (f + size e₁) (omega arith), tree t₃ k (omega arith)))
  tree (at_assign {i = i} {l = l} {e = e} n p t) f h =
      let own = turn i (7 + length (decimal l)) (f + size e) (f + (1 + size e)) (rw (n.its_kind, n.its_arg)) (omega arith) h in
      simp length-append (omega (arith, own, tree t f (omega arith)))
  tree (at_deref {i = i} {l = l} n) f h = omega (arith, turn i (2 + length (decimal l)) f (f + 1) (rw (n.its_kind, n.its_arg)) (omega arith) h)
  tree (at_skip {i = i} n) f h = turn i _ f _ (rw n.its_kind) (omega arith) h
  tree (at_seq {i = i} {e₁ = e₁} {e₂ = e₂} n p q t₁ t₂) f h =
      simp length-append (omega (arith, two i 5 f e₁ e₂ (rw n.its_kind) h (tree t₁ f (omega arith)) (tree t₂ (f + size e₁) (omega arith))))
  tree (at_while {i = i} {e₁ = e₁} {e₂ = e₂} n p q t₁ t₂) f h =
      simp length-append (omega (arith, two i 17 f e₁ e₂ (rw n.its_kind) h (tree t₁ f (omega arith)) (tree t₂ (f + size e₁) (omega arith))))

pub length_all : {b : List ℕ} (i : ℕ) → Opened b → i ≡ count b → length_to b i ≡ length (text (root_of b))
length_all {b} i o e =
    let s = root_size o.opens o.holds in
    let q : i ≡ 0 + size (root_of b) = omega arith in
    rw q (omega (arith, tree b o.holds.tree 0 (omega (arith, o.holds.is_last))))
