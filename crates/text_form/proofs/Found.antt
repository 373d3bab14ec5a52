-- The parser finds a tree from its text: small numbers, no deeper than there are levels, no more places than it may have, and with room for its nodes.
use Prim.Native.Nat.{ℕ, zero, suc, ◌+◌, ◌-◌, ◌≤◌, ◌<◌}
use native.Mathlib.Omega.{arith}
use mathlib.Core.Path.{◌≡◌, refl, ◌∙◌}
use mathlib.Core.Bool.{Bool, true, false}
use mathlib.Core.List.{List, [], ◌∷◌, ◌++◌, append_assoc}
use mathlib.Core.Option.{Option, some}
use borrow.Author.Tests.{lt-ltb, le-ltb, ne_eqb}
use lib.Dec.{eqb}
use lib.IntN.{ℤ, pos, negsuc}
use lib.ListN.{drop}
use Rattle.l1.specs.Syntax.{Op, plus, geq, Expr, int, bool, ◌‹◌#◌›◌, if◌then'◌else◌, ◌:=◌, !◌, skip, ◌⨾◌, while◌do'◌done}
use Rattle.l1.specs.Measures.{size, places}
use Rattle.l1.specs.Text.{bytes, sign, decimal, text}
use Rattle.l1.proofs.Depth.{depth, places_below_depth}
use Rattle.text_form.specs.Digits.{digit, digits_of, value_from}
use Rattle.text_form.specs.Small.{Small}
use Rattle.text_form.specs.Parser.{front, behind, number_of, number, leaf_with, word_leaf, plain, minus, deref, leaf_of, head_with, assign_head}
use Rattle.text_form.specs.Parser.{head_of, word_joint, sides_joint, joint_of, close_of, two_parts, Parsed, parsed, noded, leaf, besides, branch_of}
use Rattle.text_form.specs.Parser.{second_of, form_of, parse}
use Rattle.text_form.proofs.Notation.{digits_front, digits_behind, digits_decimal, zero_noted, noted, is_digit, nonzero_is, value_decimal}
use Rattle.text_form.proofs.Numbering.{renumber}

-- no digit stands in front
abbrev pub Clear : List ℕ → Type 0
Clear u = digit (front u) ≡ false

-- ---- numbers

pub number_front : (n : ℕ) (u : List ℕ) → digit (front (decimal n ++ u)) ≡ true
number_front zero u = rw zero_noted
number_front (suc n) u =
    let r = noted (suc n) (omega arith) in let b = nonzero_is r.top r.leads in rw r.is (is_digit r.top (omega arith))

-- a number begins with no other byte
pub unlike : (n : ℕ) (u : List ℕ) (a : ℕ) → digit a ≡ false → eqb (front (decimal n ++ u)) a ≡ false
unlike n u a h =
    ne_eqb (front (decimal n ++ u)) a (λ e. let q : digit a ≡ true = rw e at (number_front n u) in let z : ◌≡◌ {A = ℕ} 0 1 = cc in omega arith)

pub value_found : (n : ℕ) (u : List ℕ) → Clear u → value_from 0 (digits_of (decimal n ++ u)) ≡ n
value_found n u c = rw (digits_front u c (digits_decimal n)) (value_decimal n)

pub number_found : (bound n : ℕ) (u : List ℕ) → n ≤ bound → Clear u → number bound (decimal n ++ u) ≡ some (number_of n u)
unfolding number
number_found bound zero u h c = rw zero_noted
number_found bound (suc n) u h c =
    let r = noted (suc n) (omega arith) in let b = nonzero_is r.top r.leads in
    let first : front (decimal (suc n) ++ u) ≡ r.top = rw r.is in
    rw (first, ne_eqb r.top 48 (λ e. omega arith), r.leads, value_found (suc n) u c, le-ltb bound (suc n) h, digits_behind u c (digits_decimal (suc n)))

-- ---- expressions without parts

module _ (u : List ℕ) (c : Clear u) where
  int_found : (n : ℤ) → Small (int n) → leaf_of (text (int n) ++ u) ≡ some (leaf_with (int n) u)
  unfolding text leaf_of plain minus
  int_found (pos n) s =
      rw (unlike n u 33 refl, unlike n u 45 refl, unlike n u 116 refl, unlike n u 102 refl, unlike n u 115 refl, number_found 2147483647 n u s c)
  int_found (negsuc n) s =
      let q : suc n - 1 ≡ n = omega arith in
      rw (number_found 2147483648 (suc n) u (omega arith) c, ne_eqb (suc n) 0 (λ e. omega arith), q)

  deref_found : (l : ℕ) → l ≤ 255 → leaf_of (text (! l) ++ u) ≡ some (leaf_with (! l) u)
  unfolding text leaf_of deref behind
  deref_found l s = rw (number_found 255 l u s c)

pub truth_found : (b : Bool) (u : List ℕ) → leaf_of (text (bool b) ++ u) ≡ some (leaf_with (bool b) u)
unfolding text leaf_of word_leaf behind
truth_found true u = refl
truth_found false u = refl

pub skip_found : (u : List ℕ) → leaf_of (text skip ++ u) ≡ some (leaf_with skip u)
unfolding text leaf_of word_leaf behind
skip_found u = refl

-- ---- expressions with parts, by any reader `sub` that finds the parts

-- an expression begins with no head
pub begins : (e : Expr) (w : List ℕ)
    → (eqb (front (text e ++ w)) 105 ≡ false) × (eqb (front (text e ++ w)) 119 ≡ false) × (eqb (front (text e ++ w)) 108 ≡ false)
unfolding text
begins (int (pos n)) w = (unlike n w 105 refl, unlike n w 119 refl, unlike n w 108 refl)
begins (int (negsuc n)) w = (refl, refl, refl)
begins (bool true) w = (refl, refl, refl)
begins (bool false) w = (refl, refl, refl)
begins (e₁ ‹ o # i › e₂) w = (refl, refl, refl)
begins (if e₁ then' e₂ else e₃) w = (refl, refl, refl)
begins (l := e) w = (refl, refl, refl)
begins (! l) w = (refl, refl, refl)
begins skip w = (refl, refl, refl)
begins (e₁ ⨾ e₂) w = (refl, refl, refl)
begins (while e₁ do' e₂ done) w = (refl, refl, refl)

no_head : (e : Expr) (w : List ℕ) → head_of (text e ++ w) ≡ some (head_with 2 0 (text e ++ w))
unfolding head_of
no_head e w = let b = begins e w in rw (b.0, b.1, b.2)

pub group : (x s y t u : List ℕ) → x ++ s ++ y ++ t ++ u ≡ x ++ (s ++ (y ++ (t ++ u)))
group x s y t u = simp append_assoc

if_group : (x y z u : List ℕ) → x ++ bytes " then " ++ y ++ bytes " else " ++ z ++ 41 ∷ [] ++ u ≡ x ++ (bytes " then " ++ (y ++ (bytes " else " ++ (z ++ 41 ∷ u))))
if_group x y z u = simp append_assoc

module _ (cap : ℕ) where
  pub node_found : (f n : ℕ) (e : Expr) (u : List ℕ) → f < cap → f + 1 ≡ n → noded cap f e u ≡ some (parsed e n u)
  unfolding noded
  node_found f n e u h q = rw (lt-ltb f cap h, q)

  module _ (sub : ℕ → ℕ → List ℕ → Option Parsed) where
    -- with n places
    abbrev pub Finds : ℕ → Expr → Type 0
    Finds n e = (f : ℕ) (u : List ℕ) → f + size e ≤ cap → Clear u → sub n f (text e ++ u) ≡ some (parsed (renumber f e) (f + size e) u)

    module _ (k : ℕ) where
      -- what stands between the brackets, k being the places of a part inside
      abbrev pub Formed : Expr → Type 0
      Formed e = (f : ℕ) (u : List ℕ) → f + size e ≤ cap → form_of cap sub k f (drop 1 (text e ++ u)) ≡ some (parsed (renumber f e) (f + size e) u)

      module _ (e₁ e₂ : Expr) (p₁ : Finds k e₁) where
        pub op_formed : Finds k e₂ → (o : Op) (i : ℕ) → Formed (e₁ ‹ o # i › e₂)
        unfolding text form_of second_of besides joint_of sides_joint word_joint behind close_of two_parts
        op_formed p₂ plus i f u h =
            let v = text e₂ ++ 41 ∷ u in
            rw (group (text e₁) (sign plus) (text e₂) (bytes ")") u, no_head e₁ (sign plus ++ v), p₁ f (sign plus ++ v) (omega arith) refl, p₂ (f + size e₁) (41 ∷ u) (omega arith) refl)
            (node_found (f + size e₁ + size e₂) _ _ u (omega arith) (omega arith))
        op_formed p₂ geq i f u h =
            let v = text e₂ ++ 41 ∷ u in
            rw (group (text e₁) (sign geq) (text e₂) (bytes ")") u, no_head e₁ (sign geq ++ v), p₁ f (sign geq ++ v) (omega arith) refl, p₂ (f + size e₁) (41 ∷ u) (omega arith) refl)
            (node_found (f + size e₁ + size e₂) _ _ u (omega arith) (omega arith))

        pub seq_formed : Finds (1 + k) e₂ → Formed (e₁ ⨾ e₂)
        unfolding text form_of second_of besides joint_of sides_joint word_joint behind close_of two_parts
        seq_formed p₂ f u h =
            let v = text e₂ ++ 41 ∷ u in
            rw (group (text e₁) (bytes " ; ") (text e₂) (bytes ")") u, no_head e₁ (bytes " ; " ++ v), p₁ f (bytes " ; " ++ v) (omega arith) refl, p₂ (f + size e₁) (41 ∷ u) (omega arith) refl)
            (node_found (f + size e₁ + size e₂) _ _ u (omega arith) (omega arith))

        pub while_formed : Finds k e₂ → Formed (while e₁ do' e₂ done)
        unfolding text form_of head_of second_of besides joint_of word_joint behind close_of two_parts
        while_formed p₂ f u h =
            let v = text e₂ ++ (bytes " done)" ++ u) in
            rw (group (text e₁) (bytes " do ") (text e₂) (bytes " done)") u, p₁ f (bytes " do " ++ v) (omega arith) refl, p₂ (f + size e₁) (bytes " done)" ++ u) (omega arith) refl)
            (node_found (f + size e₁ + size e₂) _ _ u (omega arith) (omega arith))

        pub if_formed : (e₃ : Expr) → Finds (1 + k) e₂ → Finds (1 + k) e₃ → Formed (if e₁ then' e₂ else e₃)
        unfolding text form_of head_of second_of besides branch_of joint_of word_joint behind
        if_formed e₃ p₂ p₃ f u h =
            let w = bytes " else " ++ (text e₃ ++ 41 ∷ u) in
            rw (
              if_group (text e₁) (text e₂) (text e₃) u,
              p₁ f (bytes " then " ++ (text e₂ ++ w)) (omega arith) refl,
              p₂ (f + size e₁) w (omega arith) refl,
              p₃ (f + size e₁ + size e₂) (41 ∷ u) (omega arith) refl,
            )
            (node_found (f + size e₁ + size e₂ + size e₃) _ _ u (omega arith) (omega arith))

      assign_formed : (l : ℕ) (e : Expr) → l ≤ 255 → Finds k e → Formed (l := e)
      unfolding text form_of head_of assign_head joint_of word_joint behind
      assign_formed l e s p f u h =
          rw (group (decimal l) (bytes " := ") (text e) (bytes ")") u, number_found 255 l (bytes " := " ++ (text e ++ 41 ∷ u)) s refl, p f (41 ∷ u) (omega arith) refl)
          (node_found (f + size e) _ _ u (omega arith) (omega arith))

-- ---- all of them

leaf_parsed : (e : Expr) (cap levels k f : ℕ) (u v : List ℕ) → leaf_of v ≡ some (leaf_with e u) → eqb (front v) 40 ≡ false → f + 1 ≤ cap
    → parse cap levels k f v ≡ some (parsed e (f + 1) u)
unfolding parse leaf
leaf_parsed e cap zero k f u v q n h = rw (n, q) (node_found cap f (f + 1) e u (omega arith) refl)
leaf_parsed e cap (suc levels) zero f u v q n h = rw (n, q) (node_found cap f (f + 1) e u (omega arith) refl)
leaf_parsed e cap (suc levels) (suc k) f u v q n h = rw (n, q) (node_found cap f (f + 1) e u (omega arith) refl)

bracketed : (cap levels k f : ℕ) (u : List ℕ) → 0 < levels → 0 < k → parse cap levels k f (40 ∷ u) ≡ form_of cap (parse cap (levels - 1)) (k - 1) f u
unfolding parse
bracketed cap zero k f u h l = absurd (omega arith)
bracketed cap (suc levels) zero f u h l = absurd (omega arith)
bracketed cap (suc levels) (suc k) f u h l = let p : suc levels - 1 ≡ levels = omega arith in let q : suc k - 1 ≡ k = omega arith in rw (p, q)

pub parse_finds : (e : Expr) (cap levels k f : ℕ) (u : List ℕ) → Small e → depth e ≤ levels + 1 → places e ≤ k → f + size e ≤ cap → Clear u
    → parse cap levels k f (text e ++ u) ≡ some (parsed (renumber f e) (f + size e) u)
unfolding text
parse_finds (int (pos n)) cap j k f u s d p h c = leaf_parsed (int (pos n)) cap j k f u _ (int_found u c (pos n) s) (unlike n u 40 refl) h
parse_finds (int (negsuc n)) cap j k f u s d p h c = leaf_parsed (int (negsuc n)) cap j k f u _ (int_found u c (negsuc n) s) refl h
parse_finds (bool true) cap j k f u s d p h c = leaf_parsed (bool true) cap j k f u _ (truth_found true u) refl h
parse_finds (bool false) cap j k f u s d p h c = leaf_parsed (bool false) cap j k f u _ (truth_found false u) refl h
parse_finds (! l) cap j k f u s d p h c = leaf_parsed (! l) cap j k f u _ (deref_found u c l s) refl h
parse_finds skip cap j k f u s d p h c = leaf_parsed skip cap j k f u _ (skip_found u) refl h
parse_finds (e₁ ‹ o # i › e₂) cap j k f u s d p h c =
    bracketed cap j k f _ (omega (arith, places_below_depth e₁)) (omega arith)
    ∙ op_formed cap (parse cap (j - 1)) (k - 1) e₁ e₂ (λ g v. parse_finds e₁ cap (j - 1) (k - 1) g v s.0 (omega arith) (omega arith))
    (λ g v. parse_finds e₂ cap (j - 1) (k - 1) g v s.1 (omega arith) (omega arith)) o i f u h
parse_finds (if e₁ then' e₂ else e₃) cap j k f u s d p h c =
    bracketed cap j k f _ (omega (arith, places_below_depth e₁)) (omega arith)
    ∙ if_formed cap (parse cap (j - 1)) (k - 1) e₁ e₂ (λ g v. parse_finds e₁ cap (j - 1) (k - 1) g v s.0 (omega arith) (omega arith)) e₃
    (λ g v. parse_finds e₂ cap (j - 1) (1 + (k - 1)) g v s.1 (omega arith) (omega arith))
    (λ g v. parse_finds e₃ cap (j - 1) (1 + (k - 1)) g v s.2 (omega arith) (omega arith)) f u h
parse_finds (l := e) cap j k f u s d p h c =
    bracketed cap j k f _ (omega (arith, places_below_depth e)) (omega arith)
    ∙ assign_formed cap (parse cap (j - 1)) (k - 1) l e s.0 (λ g v. parse_finds e cap (j - 1) (k - 1) g v s.1 (omega arith) (omega arith)) f u h
parse_finds (e₁ ⨾ e₂) cap j k f u s d p h c =
    bracketed cap j k f _ (omega (arith, places_below_depth e₁)) (omega arith)
    ∙ seq_formed cap (parse cap (j - 1)) (k - 1) e₁ e₂ (λ g v. parse_finds e₁ cap (j - 1) (k - 1) g v s.0 (omega arith) (omega arith))
    (λ g v. parse_finds e₂ cap (j - 1) (1 + (k - 1)) g v s.1 (omega arith) (omega arith)) f u h
parse_finds (while e₁ do' e₂ done) cap j k f u s d p h c =
    bracketed cap j k f _ (omega (arith, places_below_depth e₁)) (omega arith)
    ∙ while_formed cap (parse cap (j - 1)) (k - 1) e₁ e₂ (λ g v. parse_finds e₁ cap (j - 1) (k - 1) g v s.0 (omega arith) (omega arith))
    (λ g v. parse_finds e₂ cap (j - 1) (k - 1) g v s.1 (omega arith) (omega arith)) f u h
