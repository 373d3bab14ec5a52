-- What the parser answers: a tree whose text stands in front of what is left, within its limits, each operator numbered by its own node.
use Prim.Native.Nat.{ℕ, zero, suc, ◌+◌, ◌-◌, ◌*◌, ◌≤◌, ◌<◌}
use native.Mathlib.Omega.{arith}
use mathlib.Core.Path.{◌≡◌, refl, sym, ◌∙◌, ap}
use mathlib.Core.Bool.{Bool, true, false, cond}
use mathlib.Core.List.{List, [], ◌∷◌, ◌++◌, append_assoc, append-nil}
use mathlib.Core.Option.{Option, none, some}
use borrow.Author.Tests.{ltb-true, ltb-false, eqb-true, eqb-false}
use lib.Dec.{ltb, eqb}
use lib.IntN.{pos, negsuc}
use lib.ListN.{length, length-append, get_or, drop}
use Rattle.l1.specs.Syntax.{Op, plus, geq, Loc, Expr, int, bool, ◌‹◌#◌›◌, if◌then'◌else◌, ◌:=◌, !◌, skip, ◌⨾◌, while◌do'◌done}
use Rattle.l1.specs.Measures.{size, places}
use Rattle.l1.specs.Text.{bytes, sign, decimal, text}
use Rattle.l1.proofs.Depth.{depth_by_places}
use Rattle.stored.specs.Stored.{Storable}
use Rattle.text_form.specs.Digits.{nonzero, digits_of, beyond, value_from}
use Rattle.text_form.specs.Small.{Small, Unreadable}
use Rattle.text_form.specs.Parser.{on, front, behind, Number, number, Leaf, word_leaf, plain, minus, deref, leaf_of, Head, head_with, assign_head}
use Rattle.text_form.specs.Parser.{head_of, Joint, joint_with, word_joint, sides_joint, joint_of, close_of, two_parts, Parsed, parsed, noded, leaf}
use Rattle.text_form.specs.Parser.{besides, branch_of, second_of, form_of, parse}
use Rattle.text_form.proofs.Notation.{is_digit, nonzero_is, parted, zero_noted, noted, from_digits}
use Rattle.text_form.proofs.Numbering.{renumber, Held, held_storable}
use Rattle.text_form.proofs.Found.{parse_finds}

-- ---- what an answer is, said of the code that gives it

data Gives {A : Type 0} (P : A → Type 0) : Option A → Type 0 where
  nothing : Gives P none
  this : {a : A} → P a → Gives P (some a)

given : {A : Type 0} {P : A → Type 0} {o : Option A} {a : A} → Gives P o → o ≡ some a → P a
given nothing e = absurd (let z : ◌≡◌ {A = ℕ} 0 1 = cc in omega arith)
given {a = a} (this {a = b} p) e = let q : b ≡ a = cc in rw (← q) p

also : {A : Type 0} {P Q : A → Type 0} {o : Option A} → ((a : A) → Q a → P a) → Gives Q o → Gives P o
also h nothing = nothing
also h (this {a} q) = this (h a q)

after : {A B : Type 0} {P : B → Type 0} {Q : A → Type 0} {o : Option A} (f : A → Option B) → Gives Q o → ((a : A) → Q a → Gives P (f a)) → Gives P (on o f)
after f nothing h = nothing
after f (this {a} q) h = h a q

module _ {A : Type 0} {P : A → Type 0} {x y : Option A} where
  either : (c : Bool) → (c ≡ true → Gives P x) → (c ≡ false → Gives P y) → Gives P (cond c x y)
  either true h k = h refl
  either false h k = k refl

-- the choice is made before what goes on
split : {A B : Type 0} {P : B → Type 0} (c : Bool) (x y : Option A) (f : A → Option B) → Gives P (on x f) → Gives P (on y f) → Gives P (on (cond c x y) f)
split true x y f g h = g
split false x y f g h = h

in_front : (b : ℕ) (u : List ℕ) → b < 256 → eqb (front u) b ≡ true → u ≡ b ∷ drop 1 u
in_front b [] h e = absurd (let q = eqb-true 256 b e in omega arith)
in_front b (a ∷ u) h e = rw (eqb-true a b e)

behind_gives : (w u : List ℕ) → Gives (λ v. u ≡ w ++ v) (behind w u)
unfolding behind
behind_gives [] u = this refl
behind_gives (a ∷ w) [] = nothing
behind_gives (a ∷ w) (b ∷ u) = either (eqb b a) (λ t. also (λ v q. rw (eqb-true b a t) (ap (λ (x : List ℕ). a ∷ x) q)) (behind_gives w u)) (λ t. nothing)

-- ---- numbers

record Numeral (bound : ℕ) (u : List ℕ) (n : Number) : Type 0 where
  reads : u ≡ decimal n.value ++ n.left
  bounded : n.value ≤ bound

led : (u : List ℕ) → nonzero (front u) ≡ true → u ≡ decimal (value_from 0 (digits_of u)) ++ beyond u
unfolding digits_of beyond
led [] h = absurd (let z : ◌≡◌ {A = ℕ} 0 1 = cc in omega arith)
led (b ∷ u) h =
    let r = nonzero_is b h in
    rw (is_digit b (omega arith), from_digits b h (parted u).digits) (ap (λ (x : List ℕ). b ∷ x) (parted u).whole)

number_gives : (bound : ℕ) (u : List ℕ) → Gives (Numeral bound u) (number bound u)
unfolding number
number_gives bound u =
    either (eqb (front u) 48) (λ t. this (record { reads = rw zero_noted (in_front 48 u (omega arith) t); bounded = omega arith })) (λ t.
    either (nonzero (front u)) (λ z.
    either (ltb bound (value_from 0 (digits_of u))) (λ l. nothing) (λ l. this (record { reads = led u z; bounded = ltb-false bound _ l }))) (λ z. nothing))

-- ---- expressions without parts

-- e has no parts
abbrev Bare : Expr → Type 0
Bare e = (f : ℕ) → (size e ≡ 1) × (places e ≡ 0) × (renumber f e ≡ e)

record Alone (u : List ℕ) (l : Leaf) : Type 0 where
  reads : u ≡ text l.expr ++ l.left
  small : Small l.expr
  bare : Bare l.expr

word_gives : (e : Expr) (u : List ℕ) → Bare e → Small e → Gives (Alone u) (word_leaf (text e) e u)
unfolding word_leaf
word_gives e u b s = after _ (behind_gives (text e) u) (λ v q. this (record { reads = q; small = s; bare = b }))

deref_gives : (u : List ℕ) → Gives (Alone u) (deref u)
unfolding deref text
deref_gives u =
    after _ (behind_gives (bytes "!l") u) (λ v q. after _ (number_gives 255 v) (λ n m.
    this (record { reads = q ∙ rw (← m.reads); small = m.bounded; bare = λ f. (refl, refl, refl) })))

plain_gives : (u : List ℕ) → Gives (Alone u) (plain u)
unfolding plain text
plain_gives u = after _ (number_gives 2147483647 u) (λ n m. this (record { reads = m.reads; small = m.bounded; bare = λ f. (refl, refl, refl) }))

minus_gives : (u : List ℕ) → Gives (Alone (45 ∷ u)) (minus u)
unfolding minus text
minus_gives u =
    after _ (number_gives 2147483648 u) (λ n m. either (eqb n.value 0) (λ t. nothing) (λ t.
    let z = eqb-false n.value 0 t in let b = m.bounded in let s : suc (n.value - 1) ≡ n.value = omega arith in
    this (record { reads = rw (s, ← m.reads); small = omega arith; bare = λ f. (refl, refl, refl) })))

leaf_gives : (u : List ℕ) → Gives (Alone u) (leaf_of u)
unfolding leaf_of text
leaf_gives u =
    either (eqb (front u) 33) (λ t. deref_gives u) (λ _.
    either (eqb (front u) 45) (λ t. rw (in_front 45 u (omega arith) t) (minus_gives (drop 1 u))) (λ _.
    either (eqb (front u) 116) (λ t. word_gives (bool true) u (λ f. (refl, refl, refl)) tt) (λ _.
    either (eqb (front u) 102) (λ t. word_gives (bool false) u (λ f. (refl, refl, refl)) tt) (λ _.
    either (eqb (front u) 115) (λ t. word_gives skip u (λ f. (refl, refl, refl)) tt) (λ _. plain_gives u)))))

-- ---- expressions with parts

-- the tree that is read, at node f and with k places at most
pub record Sound (cap k f : ℕ) (u : List ℕ) (p : Parsed) : Type 0 where
  pub reads : u ≡ text p.expr ++ p.left
  pub measures : (p.node ≡ f + size p.expr) × (p.node ≤ cap) × (places p.expr ≤ k)
  pub held : Held f p.expr

-- behind "("
data Begun : List ℕ → Head → Type 0 where
  by_if : {u v : List ℕ} → u ≡ bytes "if " ++ v → Begun u (head_with 4 0 v)
  by_while : {u v : List ℕ} → u ≡ bytes "while " ++ v → Begun u (head_with 9 0 v)
  by_assign : {l : Loc} {u v : List ℕ} → l ≤ 255 → u ≡ bytes "l" ++ decimal l ++ bytes " := " ++ v → Begun u (head_with 5 l v)
  by_side : {u : List ℕ} → Begun u (head_with 2 0 u)

assigned : (l : Loc) (u x v : List ℕ) → u ≡ 108 ∷ drop 1 u → drop 1 u ≡ decimal l ++ x → x ≡ bytes " := " ++ v → u ≡ bytes "l" ++ decimal l ++ bytes " := " ++ v
assigned l u x v r p q = r ∙ ap (λ (y : List ℕ). 108 ∷ y) (p ∙ rw q (sym (append_assoc (decimal l) (bytes " := ") v)))

head_gives : (u : List ℕ) → Gives (Begun u) (head_of u)
unfolding head_of assign_head
head_gives u =
    either (eqb (front u) 105) (λ t. after _ (behind_gives (bytes "if ") u) (λ v q. this (by_if q))) (λ _.
    either (eqb (front u) 119) (λ t. after _ (behind_gives (bytes "while ") u) (λ v q. this (by_while q))) (λ _.
    either (eqb (front u) 108) (λ t.
    after _ (number_gives 255 (drop 1 u)) (λ n m. after _ (behind_gives (bytes " := ") n.left) (λ v q.
    this (by_assign {v = v} m.bounded (assigned n.value u n.left v (in_front 108 u (omega arith) t) m.reads q)))))
    (λ _. this by_side)))

-- a form of two parts, of this kind, between the words a, w and z
record Form (kind : ℕ) (a w z : List ℕ) (make : ℕ → Expr → Expr → Expr) : Type 0 where
  is : (i : ℕ) (e₁ e₂ : Expr)
      → (text (make i e₁ e₂) ≡ a ++ text e₁ ++ w ++ text e₂ ++ z) × (size (make i e₁ e₂) ≡ 1 + size e₁ + size e₂)
  few : (k i : ℕ) (e₁ e₂ : Expr) → places e₁ ≤ k → places e₂ ≤ besides k kind → places (make i e₁ e₂) ≤ suc k
  holds : (i f : ℕ) (e₁ e₂ : Expr) → i ≡ f + size e₁ + size e₂ → Held f e₁ → Held (f + size e₁) e₂ → Held f (make i e₁ e₂)

op_form : (o : Op) (kind : ℕ) → ((k : ℕ) → besides k kind ≡ k) → Form kind (bytes "(") (sign o) (bytes ")") (λ i e₁ e₂. e₁ ‹ o # i › e₂)
unfolding text
op_form o kind b = record {
  is = λ i e₁ e₂. (refl, refl);
  few = λ k i e₁ e₂ p q. omega (arith, b k);
  holds = λ i f e₁ e₂ h p q. record { small = (p.small, q.small); own = rw (p.own, q.own, h) };
}

seq_form : Form 8 (bytes "(") (bytes " ; ") (bytes ")") (λ i e₁ e₂. e₁ ⨾ e₂)
unfolding text besides
seq_form = record {
  is = λ i e₁ e₂. (refl, refl);
  few = λ k i e₁ e₂ p q. omega arith;
  holds = λ i f e₁ e₂ h p q. record { small = (p.small, q.small); own = rw (p.own, q.own) };
}

while_form : Form 9 (bytes "(while ") (bytes " do ") (bytes " done)") (λ i e₁ e₂. while e₁ do' e₂ done)
unfolding text besides
while_form = record {
  is = λ i e₁ e₂. (refl, refl);
  few = λ k i e₁ e₂ p q. omega arith;
  holds = λ i f e₁ e₂ h p q. record { small = (p.small, q.small); own = rw (p.own, q.own) };
}

assign_group : (x y v : List ℕ) → bytes "(l" ++ (x ++ bytes " := " ++ (y ++ 41 ∷ v)) ≡ bytes "(" ++ (bytes "l" ++ x) ++ bytes " := " ++ y ++ bytes ")" ++ v
assign_group x y v = simp append_assoc

node_gives : {P : Parsed → Type 0} (cap g : ℕ) (e : Expr) (v : List ℕ) → (g < cap → P (parsed e (g + 1) v)) → Gives P (noded cap g e v)
unfolding noded
node_gives cap g e v make = either (ltb g cap) (λ t. this (make (ltb-true g cap t))) (λ t. nothing)

-- behind the word w, with which a joint goes on
joint_gives : {P : Parsed → Type 0} (w : List ℕ) (k : ℕ) (u : List ℕ) (h : Joint → Option Parsed)
    → ((v : List ℕ) → u ≡ w ++ v → Gives P (h (joint_with k v))) → Gives P (on (word_joint w k u) h)
unfolding word_joint
joint_gives {P} w k u h go = ends (behind_gives w u)
  where
    ends : {o : Option (List ℕ)} → Gives (λ v. u ≡ w ++ v) o → Gives P (on (on o (λ v. some (joint_with k v))) h)
    ends nothing = nothing
    ends (this {a = v} q) = go v q

module _ (cap k : ℕ) (sub : ℕ → ℕ → List ℕ → Option Parsed) (sound : (n f : ℕ) (u : List ℕ) → Gives (Sound cap n f u) (sub n f u)) where
  -- the first part p is read, and the second stands in v
  module _ (f : ℕ) (u v : List ℕ) (p : Parsed) (s : Sound cap k f u p) where
    module _ {kind : ℕ} {a w z : List ℕ} {make : ℕ → Expr → Expr → Expr} (form : Form kind a w z make) (h : p.left ≡ w ++ v) where
      two_made : (q : Parsed) (x : List ℕ) → Sound cap (besides k kind) p.node v q → q.left ≡ z ++ x → q.node < cap
          → Sound cap (suc k) f (a ++ u) (parsed (make q.node p.expr q.expr) (q.node + 1) x)
      two_made q x t b l =
          let (y, c) = form.is q.node p.expr q.expr in
          let d = form.few k q.node p.expr q.expr s.measures.2 t.measures.2 in
          let n : f + size p.expr ≡ p.node = omega arith in
          record {
            reads = rw (y, s.reads, h, t.reads, b) (simp append_assoc);
            measures = omega arith;
            held = form.holds q.node f p.expr q.expr (omega arith) s.held (rw n t.held);
          }

      two_give : Gives (Sound cap (suc k) f (a ++ u)) (on (sub (besides k kind) p.node v) (λ q. on (behind z q.left) (λ x. noded cap q.node (make q.node p.expr q.expr) x)))
      two_give = after _ (sound (besides k kind) p.node v) (λ q t. after _ (behind_gives z q.left) (λ x b. node_gives cap q.node _ x (two_made q x t b)))

    if_made : (q t : Parsed) (x y : List ℕ) → p.left ≡ bytes " then " ++ v → Sound cap (1 + k) p.node v q → q.left ≡ bytes " else " ++ x
        → Sound cap (1 + k) q.node x t → t.left ≡ bytes ")" ++ y → t.node < cap
        → Sound cap (suc k) f (bytes "(if " ++ u) (parsed (if p.expr then' q.expr else t.expr) (t.node + 1) y)
    unfolding text
    if_made q t x y h s₂ b s₃ c l =
        let n₂ : f + size p.expr ≡ p.node = omega arith in
        let n₃ : p.node + size q.expr ≡ q.node = omega arith in
        record {
          reads = rw (s.reads, h, s₂.reads, b, s₃.reads, c) (simp append_assoc);
          measures = omega arith;
          held = record {
            small = (s.held.small, s₂.held.small, s₃.held.small);
            own = rw (s.held.own, n₂, s₂.held.own, n₃, s₃.held.own);
          };
        }

    branch_gives : (q : Parsed) → p.left ≡ bytes " then " ++ v → Sound cap (1 + k) p.node v q → Gives (Sound cap (suc k) f (bytes "(if " ++ u)) (branch_of cap sub k p q)
    unfolding branch_of
    branch_gives q h s₂ =
        after _ (behind_gives (bytes " else ") q.left) (λ x b. after _ (sound (1 + k) q.node x) (λ t s₃.
        after _ (behind_gives (bytes ")") t.left) (λ y c. node_gives cap t.node _ y (if_made q t x y h s₂ b s₃ c))))

    assign_made : (l : Loc) → l ≤ 255 → p.left ≡ bytes ")" ++ v → p.node < cap
        → Sound cap (suc k) f (bytes "(l" ++ decimal l ++ bytes " := " ++ u) (parsed (l := p.expr) (p.node + 1) v)
    unfolding text
    assign_made l small h room = record {
      reads = rw (s.reads, h) (assign_group (decimal l) (text p.expr) v);
      measures = omega arith;
      held = record { small = (small, s.held.small); own = rw s.held.own };
    }

  -- behind the first part, by the head
  module _ (f : ℕ) (u : List ℕ) (p : Parsed) (s : Sound cap k f u p) where
    -- what is read there
    abbrev rest : Head → Option Parsed
    rest h = on (joint_of h.kind p.left) (λ j. cond (eqb j.kind 5) (noded cap p.node (h.location := p.expr) j.left) (second_of cap sub k p j))

    if_gives : Gives (Sound cap (suc k) f (bytes "(if " ++ u)) (rest (head_with 4 0 u))
    unfolding joint_of second_of besides
    if_gives = joint_gives (bytes " then ") 4 p.left _ (λ v h. after _ (sound (1 + k) p.node v) (λ q t. branch_gives f u v p s q h t))

    while_gives : Gives (Sound cap (suc k) f (bytes "(while " ++ u)) (rest (head_with 9 0 u))
    unfolding joint_of second_of close_of two_parts
    while_gives = joint_gives (bytes " do ") 9 p.left _ (λ v h. two_give f u v p s while_form h)

    assign_gives : (l : Loc) → l ≤ 255 → Gives (Sound cap (suc k) f (bytes "(l" ++ decimal l ++ bytes " := " ++ u)) (rest (head_with 5 l u))
    unfolding joint_of
    assign_gives l b = joint_gives (bytes ")") 5 p.left _ (λ v h. node_gives cap p.node _ v (assign_made f u v p s l b h))

    sides_give : Gives (Sound cap (suc k) f (bytes "(" ++ u)) (rest (head_with 2 0 u))
    unfolding joint_of sides_joint second_of besides close_of two_parts
    sides_give =
        split (eqb (get_or p.left 1 256) 43) _ _ _ (joint_gives (bytes " + ") 2 p.left _ (λ v h. two_give f u v p s (op_form plus 2 (λ _. refl)) h))
        (split (eqb (get_or p.left 1 256) 62) _ _ _ (joint_gives (bytes " >= ") 3 p.left _ (λ v h. two_give f u v p s (op_form geq 3 (λ _. refl)) h))
        (joint_gives (bytes " ; ") 8 p.left _ (λ v h. two_give f u v p s seq_form h)))

  form_gives : (f : ℕ) (u : List ℕ) → Gives (Sound cap (suc k) f (40 ∷ u)) (form_of cap sub k f u)
  unfolding form_of
  form_gives f u = after _ (head_gives u) (λ h b. after _ (sound k f h.left) (λ p s. go b p s))
    where
      go : {h : Head} → Begun u h → (p : Parsed) → (s : Sound cap k f h.left p) → Gives (Sound cap (suc k) f (40 ∷ u)) (rest f h.left p s h)
      go (by_if {v = v} q) p s = rw q (if_gives f v p s)
      go (by_while {v = v} q) p s = rw q (while_gives f v p s)
      go (by_assign {l} {v = v} b q) p s = rw q (assign_gives f v p s l b)
      go by_side p s = sides_give f u p s

alone_gives : (cap k f : ℕ) (u : List ℕ) → Gives (Sound cap k f u) (leaf cap f u)
unfolding leaf
alone_gives cap k f u =
    after _ (leaf_gives u) (λ l s. let (n, d, o) = s.bare f in node_gives cap f l.expr l.left (λ h.
    record { reads = s.reads; measures = omega arith; held = record { small = s.small; own = o } }))

parse_gives : (cap levels k f : ℕ) (u : List ℕ) → Gives (Sound cap k f u) (parse cap levels k f u)
unfolding parse
parse_gives cap zero k f u = either (eqb (front u) 40) (λ t. nothing) (λ t. alone_gives cap k f u)
parse_gives cap (suc levels) zero f u = either (eqb (front u) 40) (λ t. nothing) (λ t. alone_gives cap zero f u)
parse_gives cap (suc levels) (suc k) f u =
    either (eqb (front u) 40) (λ t. rw (in_front 40 u (omega arith) t) (form_gives cap k (parse cap levels) (parse_gives cap levels) f (drop 1 u))) (λ t. alone_gives cap (suc k) f u)

pub parse_sound : (cap levels k f : ℕ) (u : List ℕ) (p : Parsed) → parse cap levels k f u ≡ some p → Sound cap k f u p
parse_sound cap levels k f u p e = given (parse_gives cap levels k f u) e

-- ---- a whole text

pub storable_of : (m cap : ℕ) (t : List ℕ) (e : Expr) (g : ℕ) → m ≤ 64 → parse cap 2175 256 0 t ≡ some (parsed e g []) → cap ≤ 4096
    → Storable m e × (t ≡ text e) × (g ≡ size e)
storable_of m cap t e g l h c =
    let s = parse_sound cap 2175 256 0 t (parsed e g []) h in
    (held_storable e l (omega arith) (omega arith) s.held, s.reads ∙ append-nil (text e), omega arith)

-- a tree within the limits is at most 2,176 deep: where the parser has room for every tree that t can be, and none is found, no tree within the
-- limits has the text t
pub unreadable : (t : List ℕ) (cap : ℕ) → ((e : Expr) → t ≡ text e → size e ≤ 4096 → size e ≤ cap)
    → ¬ ((p : Parsed) × (parse cap 2175 256 0 t ≡ some p) × (p.left ≡ [])) → Unreadable t
unreadable t cap room None-found = record {
  none_fits = λ e q s n p.
      let r = room e q n in let d = depth_by_places e in
      None-found (
        parsed (renumber 0 e) (0 + size e) [],
        rw (q, ← append-nil (text e)) (parse_finds e cap 2175 256 0 [] s (omega arith) p (omega arith) refl),
        refl,
      );
}

-- at least three bytes for each node but one
some_digit : (n : ℕ) → 0 < length (decimal n)
some_digit zero = rw zero_noted (omega arith)
some_digit (suc n) = rw (noted (suc n) (omega arith)).is (omega arith)

pub nodes_by_length : (e : Expr) → 3 * size e ≤ length (text e) + 2
unfolding text
nodes_by_length (int (pos n)) = omega (arith, some_digit n)
nodes_by_length (int (negsuc n)) = omega (arith, some_digit (suc n))
nodes_by_length (bool true) = omega arith
nodes_by_length (bool false) = omega arith
nodes_by_length (e₁ ‹ plus # i › e₂) = simp length-append (omega (arith, nodes_by_length e₁, nodes_by_length e₂))
nodes_by_length (e₁ ‹ geq # i › e₂) = simp length-append (omega (arith, nodes_by_length e₁, nodes_by_length e₂))
nodes_by_length (if e₁ then' e₂ else e₃) = simp length-append (omega (arith, nodes_by_length e₁, nodes_by_length e₂, nodes_by_length e₃))
nodes_by_length (l := e) = simp length-append (omega (arith, nodes_by_length e))
nodes_by_length (! l) = omega arith
nodes_by_length skip = omega arith
nodes_by_length (e₁ ⨾ e₂) = simp length-append (omega (arith, nodes_by_length e₁, nodes_by_length e₂))
nodes_by_length (while e₁ do' e₂ done) = simp length-append (omega (arith, nodes_by_length e₁, nodes_by_length e₂))
