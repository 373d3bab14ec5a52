-- One node of an opened routine and the tally: what the node itself adds, and W and the two sets over the first i nodes.
use Prim.Native.Nat.{ℕ, ◌+◌, ◌^◌, ◌≤◌, ◌<◌}
use native.Mathlib.Omega.{arith}
use mathlib.Core.Path.{◌≡◌, refl, ap, ◌∙◌}
use mathlib.Core.Bool.{Bool, true, false, cond}
use mathlib.Core.List.{List}
use lib.Bits.{bit_or}
use lib.Dec.{ltb}
use lib.ListN.{length, get_or, set, take}
use lib.Seq.{take_all}
use borrow.Author.Tests.{ltb-true}
use Rattle.l1.specs.Syntax.{plus, geq, Expr, ty_int}
use Rattle.l1.specs.Judge.{wants, fault}
use Rattle.l1.specs.Measures.{working}
use Rattle.l1.specs.Sets.{Use, uses, word}
use Rattle.l1.specs.Refused.{nodes}
use Rattle.l1.proofs.Nodes.{nodes_length}
use Rattle.l1.proofs.NodeSums.{own_work, own_uses, work_of, uses_of, work_more, uses_more, working_sum, uses_sum}
use Rattle.l1.proofs.SetWords.{word_append}
use Rattle.stored.specs.Layout.{kind, arg, TreeAt, at_int, at_bool, at_op, at_if, at_assign, at_deref, at_skip, at_seq, at_while}
use Rattle.stored.specs.Reader.{tree_at}
use Rattle.stored.specs.Refusals.{locations, count, env}
use Rattle.routine.specs.Forms.{form_of, kind_of, node_of}
use Rattle.routine.specs.Open.{Opened, root_of}
use Rattle.routine.specs.declared.Node.{Node}
use Rattle.checker.specs.Rules.{work_by, uses_by}
use Rattle.checker.proofs.Tables.{kind_for, named_word}
use Rattle.routine.proofs.Standing.{is_headed, root_size, nodes_stand, root_nodes}

-- what the code adds for node i of b is what the root of the tree e adds
abbrev Adds : List ℕ → ℕ → Expr → Type 0
Adds b i e = (work_by (form_of (kind b i)) ≡ own_work e) × ((u : Use) → uses_by u (form_of (kind b i)) (arg b i) ≡ own_uses u e)

-- a location whose rule does not fail is declared
below : (l m rest : ℕ) → cond (ltb l m) rest 20 ≡ 0 → l < m
below l m rest c = go (ltb l m) refl
  where
    go : (t : Bool) → ltb l m ≡ t → l < m
    go true h = ltb-true l m h
    go false h = let z : ◌≡◌ {A = ℕ} 20 0 = rw h at c in absurd (omega arith)

module _ {b : List ℕ} {i : ℕ} where
  adds : {e : Expr} → TreeAt b i e → Adds b i e
  adds (at_int n v) = rw n.its_kind (refl, λ u. refl)
  adds (at_bool n) = rw n.its_kind (refl, λ u. refl)
  adds (at_op {o = plus} n p q t₁ t₂) = rw n.its_kind (refl, λ u. refl)
  adds (at_op {o = geq} n p q t₁ t₂) = rw n.its_kind (refl, λ u. refl)
  adds (at_if n p q r t₁ t₂ t₃) = rw n.its_kind (refl, λ u. refl)
  adds (at_assign n p t) = rw (n.its_kind, n.its_arg) (refl, λ u. refl)
  adds (at_deref n) = rw (n.its_kind, n.its_arg) (refl, λ u. refl)
  adds (at_skip n) = rw n.its_kind (refl, λ u. refl)
  adds (at_seq n p q t₁ t₂) = rw n.its_kind (refl, λ u. refl)
  adds (at_while n p q t₁ t₂) = rw n.its_kind (refl, λ u. refl)

  -- the argument of a node without a fault is a declared location, or 0 or 1
  clear_arg : {e : Expr} → locations b ≤ 64 → TreeAt b i e → fault (env b) e ≡ 0 → arg b i < 64
  unfolding fault
  clear_arg m (at_int n v) c = omega arith
  clear_arg m (at_bool {t = true} n) c = omega arith
  clear_arg m (at_bool {t = false} n) c = omega arith
  clear_arg m (at_op n p q t₁ t₂) c = omega arith
  clear_arg m (at_if n p q r t₁ t₂ t₃) c = omega arith
  clear_arg m (at_assign {l = l} {e = e} n p t₁) c = omega (arith, below l (locations b) (wants ty_int e 21 0) c, n.its_arg)
  clear_arg m (at_deref {l = l} n) c = omega (arith, below l (locations b) 0 c, n.its_arg)
  clear_arg m (at_skip n) c = omega arith
  clear_arg m (at_seq n p q t₁ t₂) c = omega arith
  clear_arg m (at_while n p q t₁ t₂) c = omega arith

-- W and a set's word, over the first i nodes
abbrev pub work_to : List ℕ → ℕ → ℕ
work_to b i = work_of (take i (nodes (root_of b)))

abbrev pub word_to : Use → List ℕ → ℕ → ℕ
word_to u b i = word (uses_of u (take i (nodes (root_of b))))

module _ {b : List ℕ} (o : Opened b) where
  -- one node more
  module _ {i : ℕ} (l : i < count b) {d : Node} (q : d ≡ node_of b i) where
    pub arg_small : fault (env b) (tree_at b i) ≡ 0 → d.arg < 64
    arg_small c = rw q (clear_arg (is_headed o.opens o.holds).few_locations (nodes_stand o.opens o.holds i l) c)

    pub work_turn : {w v : ℕ} → w ≡ work_to b i → v ≡ work_by d.form → w + v ≡ work_to b (i + 1)
    work_turn p r = rw (p, r, q, work_more (root_nodes o.opens o.holds i l), (adds (nodes_stand o.opens o.holds i l)).0)

    word_more : (u : Use) {w v : ℕ} → w ≡ word_to u b i → v ≡ word (uses_by u d.form d.arg) → bit_or w v ≡ word_to u b (i + 1)
    word_more u p r =
        let n = root_nodes o.opens o.holds i l in
        rw (p, r, q, uses_more u n, (adds (nodes_stand o.opens o.holds i l)).1 u, word_append)

    pub word_turn : (u : Use) (w : List ℕ) {k v : ℕ} → length w ≡ 16 → get_or w (kind_for u) 0 ≡ word_to u b i → k ≡ kind_of d.form → v ≡ 2 ^ d.arg
        → get_or (set w k (bit_or (get_or w k 0) v)) (kind_for u) 0 ≡ word_to u b (i + 1)
    word_turn u w long p k v = rw (k, v) (named_word d.arg w (omega arith) u d.form ∙ word_more u p refl)

  -- after the last node
  module _ {i : ℕ} (l : count b ≤ i) where
    all_taken : take i (nodes (root_of b)) ≡ nodes (root_of b)
    all_taken = take_all i (nodes (root_of b)) (rw nodes_length (omega (arith, root_size o.opens o.holds)))

    pub work_all : work_to b i ≡ working (root_of b)
    work_all = rw all_taken (working_sum (root_of b))

    pub word_all : (u : Use) → word_to u b i ≡ word (uses u (root_of b))
    word_all u = rw all_taken (ap word (uses_sum u (root_of b)))
