-- The reading of a text by descent, computed: the tree that stands at the beginning of the bytes u, its operators numbered by their nodes, or none.
-- It stands beside `text` and Reading.antt and is held to them both ways (proofs/Parsing.antt): it finds the trees that a routine can hold, and no others.
use Rattle.std.specs.Prelude.{ℕ, zero, suc, ◌+◌, ◌-◌, true, false, cond, List, [], ◌∷◌, ltb, eqb, pos, negsuc, get_or, drop}
use Rattle.std.proofs.Math.Option.{Option, none, some}
use Rattle.l1.specs.Syntax.{plus, geq, Loc, Expr, int, bool, ◌‹◌#◌›◌, if◌then'◌else◌, ◌:=◌, !◌, skip, ◌⨾◌, while◌do'◌done}
use Rattle.l1.specs.Text.{bytes}
use Rattle.text_form.specs.Digits.{nonzero, digits_of, beyond, value_from}

-- an answer, and what is done with it
abbrev pub on : {A B : Type 0} → Option A → (A → Option B) → Option B
on none f = none
on (some a) f = f a

-- the byte in front, 256 where there is none
abbrev pub front : List ℕ → ℕ
front u = get_or u 0 256

-- what stands behind the word w, where u begins with it
unfoldable pub behind : List ℕ → List ℕ → Option (List ℕ)
behind [] u = some u
behind (a ∷ w) [] = none
behind (a ∷ w) (b ∷ u) = cond (eqb b a) (behind w u) none

-- ---- numbers

pub record Number : Type 0 where
  pub value : ℕ
  pub left : List ℕ

abbrev pub number_of : ℕ → List ℕ → Number
number_of n u = record { value = n; left = u }

-- a number without leading zeros and not over the bound; behind a 0 there may be a digit, which no form goes on with
unfoldable pub number : ℕ → List ℕ → Option Number
number bound u =
    cond (eqb (front u) 48) (some (number_of 0 (drop 1 u)))
    (cond (nonzero (front u)) (cond (ltb bound (value_from 0 (digits_of u))) none (some (number_of (value_from 0 (digits_of u)) (beyond u)))) none)

-- ---- expressions without parts

pub record Leaf : Type 0 where
  pub expr : Expr
  pub left : List ℕ

abbrev pub leaf_with : Expr → List ℕ → Leaf
leaf_with e u = record { expr = e; left = u }

-- a word that is an expression
unfoldable pub word_leaf : List ℕ → Expr → List ℕ → Option Leaf
word_leaf w e u = on (behind w u) (λ v. some (leaf_with e v))

-- an integer; behind a minus no 0
unfoldable pub plain : List ℕ → Option Leaf
plain u = on (number 2147483647 u) (λ n. some (leaf_with (int (pos n.value)) n.left))

unfoldable pub minus : List ℕ → Option Leaf
minus u = on (number 2147483648 u) (λ n. cond (eqb n.value 0) none (some (leaf_with (int (negsuc (n.value - 1))) n.left)))

unfoldable pub deref : List ℕ → Option Leaf
deref u = on (behind (bytes "!l") u) (λ v. on (number 255 v) (λ n. some (leaf_with (! n.value) n.left)))

unfoldable pub leaf_of : List ℕ → Option Leaf
leaf_of u =
    cond (eqb (front u) 33) (deref u)
    (cond (eqb (front u) 45) (minus (drop 1 u))
    (cond (eqb (front u) 116) (word_leaf (bytes "true") (bool true) u)
    (cond (eqb (front u) 102) (word_leaf (bytes "false") (bool false) u)
    (cond (eqb (front u) 115) (word_leaf (bytes "skip") skip u)
    (plain u)))))

-- ---- expressions with parts, by 01's numbers of the kinds

-- behind "(": the kind, as far as it is known (2 where a first side is to come), and the location of an assignment
pub record Head : Type 0 where
  pub kind : ℕ
  pub location : Loc
  pub left : List ℕ

abbrev pub head_with : ℕ → Loc → List ℕ → Head
head_with k l u = record { kind = k; location = l; left = u }

unfoldable pub assign_head : List ℕ → Option Head
assign_head u = on (number 255 u) (λ n. on (behind (bytes " := ") n.left) (λ v. some (head_with 5 n.value v)))

unfoldable pub head_of : List ℕ → Option Head
head_of u =
    cond (eqb (front u) 105) (on (behind (bytes "if ") u) (λ v. some (head_with 4 0 v)))
    (cond (eqb (front u) 119) (on (behind (bytes "while ") u) (λ v. some (head_with 9 0 v)))
    (cond (eqb (front u) 108) (assign_head (drop 1 u))
    (some (head_with 2 0 u))))

-- behind the first part: the kind
pub record Joint : Type 0 where
  pub kind : ℕ
  pub left : List ℕ

abbrev pub joint_with : ℕ → List ℕ → Joint
joint_with k u = record { kind = k; left = u }

unfoldable pub word_joint : List ℕ → ℕ → List ℕ → Option Joint
word_joint w k u = on (behind w u) (λ v. some (joint_with k v))

unfoldable pub sides_joint : List ℕ → Option Joint
sides_joint u =
    cond (eqb (get_or u 1 256) 43) (word_joint (bytes " + ") 2 u)
    (cond (eqb (get_or u 1 256) 62) (word_joint (bytes " >= ") 3 u)
    (word_joint (bytes " ; ") 8 u))

unfoldable pub joint_of : ℕ → List ℕ → Option Joint
joint_of k u =
    cond (eqb k 4) (word_joint (bytes " then ") 4 u)
    (cond (eqb k 9) (word_joint (bytes " do ") 9 u)
    (cond (eqb k 5) (word_joint (bytes ")") 5 u)
    (sides_joint u)))

-- behind the last part of a form that has two
unfoldable pub close_of : ℕ → List ℕ → Option (List ℕ)
close_of k u = cond (eqb k 9) (behind (bytes " done)") u) (behind (bytes ")") u)

unfoldable pub two_parts : ℕ → ℕ → Expr → Expr → Expr
two_parts k i e₁ e₂ = cond (eqb k 9) (while e₁ do' e₂ done) (cond (eqb k 8) (e₁ ⨾ e₂) (cond (eqb k 3) (e₁ ‹ geq # i › e₂) (e₁ ‹ plus # i › e₂)))

-- an expression, the number of the next node, and the bytes behind it
pub record Parsed : Type 0 where
  pub expr : Expr
  pub node : ℕ
  pub left : List ℕ

abbrev pub parsed : Expr → ℕ → List ℕ → Parsed
parsed e g u = record { expr = e; node = g; left = u }

-- node f, where there is room for cap nodes
unfoldable pub noded : ℕ → ℕ → Expr → List ℕ → Option Parsed
noded cap f e u = cond (ltb f cap) (some (parsed e (f + 1) u)) none

unfoldable pub leaf : ℕ → ℕ → List ℕ → Option Parsed
leaf cap f u = on (leaf_of u) (λ l. noded cap f l.expr l.left)

-- the places that a second part may have, where a part inside the form may have k: a branch of an if and the second part of a sequence
-- are worked in the form's own place
unfoldable pub besides : ℕ → ℕ → ℕ
besides k kind = cond (eqb kind 4) (1 + k) (cond (eqb kind 8) (1 + k) k)

-- the parts of a form, read by `sub` with so many places; k are those of a part inside the form
module _ (cap : ℕ) (sub : ℕ → ℕ → List ℕ → Option Parsed) (k : ℕ) where
  -- the third part of an if, its first two being read
  unfoldable pub branch_of : Parsed → Parsed → Option Parsed
  branch_of p q =
      on (behind (bytes " else ") q.left) (λ v.
      on (sub (1 + k) q.node v) (λ s.
      on (behind (bytes ")") s.left) (λ w.
      noded cap s.node (if p.expr then' q.expr else s.expr) w)))

  -- the second part and what is behind it
  unfoldable pub second_of : Parsed → Joint → Option Parsed
  second_of p j =
      on (sub (besides k j.kind) p.node j.left) (λ q.
      cond (eqb j.kind 4) (branch_of p q)
      (on (close_of j.kind q.left) (λ w. noded cap q.node (two_parts j.kind q.node p.expr q.expr) w)))

  -- behind "(", the nodes numbered from f on
  unfoldable pub form_of : ℕ → List ℕ → Option Parsed
  form_of f u =
      on (head_of u) (λ h.
      on (sub k f h.left) (λ p.
      on (joint_of h.kind p.left) (λ j.
      cond (eqb j.kind 5) (noded cap p.node (h.location := p.expr) j.left) (second_of p j))))

-- no more than `levels` brackets inside one another, and no more than k places
unfoldable pub parse : ℕ → ℕ → ℕ → ℕ → List ℕ → Option Parsed
parse cap zero k f u = cond (eqb (front u) 40) none (leaf cap f u)
parse cap (suc levels) zero f u = cond (eqb (front u) 40) none (leaf cap f u)
parse cap (suc levels) (suc k) f u = cond (eqb (front u) 40) (form_of cap (parse cap levels) k f (drop 1 u)) (leaf cap f u)
