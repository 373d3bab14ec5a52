-- The marks of a text, put together as the text is: one law over both flags. A mark stands at each number of the flag's kind that is too large.
use Prim.Native.Nat.{ℕ, suc, ◌<◌}
use native.Mathlib.Omega.{arith}
use mathlib.Core.Path.{◌≡◌, refl, sym, ◌∙◌, ap}
use mathlib.Core.Bool.{Bool, true, false, ◌&&◌}
use mathlib.Core.List.{List, [], ◌∷◌, ◌++◌, append_assoc, append-nil}
use borrow.Author.Tests.{ne_eqb}
use lib.Dec.{ltb}
use lib.IntN.{pos, negsuc}
use lib.ListN.{length, get_or}
use Rattle.l1.specs.Syntax.{plus, geq, Expr, int, bool, ◌‹◌#◌›◌, if◌then'◌else◌, ◌:=◌, !◌, skip, ◌⨾◌, while◌do'◌done}
use Rattle.l1.specs.Text.{bytes, sign, truth, decimal, text}
use Rattle.text_form.specs.Digits.{digit}
use Rattle.text_form.proofs.Notation.{Digits, none, ◌then◌, digit_is, digits_decimal, digits_front, value_decimal}
use Rattle.text_limits.specs.Marks.{value, behind, bound, signed, large, marks}
use Rattle.text_limits.specs.declared.Numbers.{Numbers}
use Rattle.text_limits.specs.declared.Numbers.TheVariants.{Locations, Integers}

-- no mark on any byte, and one on the first byte where x
abbrev pub blank : List ℕ → List Bool
blank [] = []
blank (b ∷ u) = false ∷ blank u

abbrev pub first : Bool → List ℕ → List Bool
first x [] = []
first x (b ∷ u) = x ∷ blank u

unfoldable pub flags : Numbers → Expr → List Bool
flags kind (int (pos n)) = first (behind kind 32 && ltb (bound kind) n) (decimal n)
flags kind (int (negsuc n)) = (signed kind && ltb 2147483648 (suc n)) ∷ first false (decimal (suc n))
flags kind (bool b) = blank (truth b)
flags kind (e₁ ‹ o # i › e₂) = blank (bytes "(") ++ flags kind e₁ ++ blank (sign o) ++ flags kind e₂ ++ blank (bytes ")")
flags kind (if e₁ then' e₂ else e₃) =
    blank (bytes "(if ") ++ flags kind e₁ ++ blank (bytes " then ") ++ flags kind e₂ ++ blank (bytes " else ") ++ flags kind e₃ ++ blank (bytes ")")
flags kind (l := e) = blank (bytes "(l") ++ first (behind kind 108 && ltb (bound kind) l) (decimal l) ++ blank (bytes " := ") ++ flags kind e ++ blank (bytes ")")
flags kind (! l) = blank (bytes "!l") ++ first (behind kind 108 && ltb (bound kind) l) (decimal l)
flags kind skip = blank (bytes "skip")
flags kind (e₁ ⨾ e₂) = blank (bytes "(") ++ flags kind e₁ ++ blank (bytes " ; ") ++ flags kind e₂ ++ blank (bytes ")")
flags kind (while e₁ do' e₂ done) = blank (bytes "(while ") ++ flags kind e₁ ++ blank (bytes " do ") ++ flags kind e₂ ++ blank (bytes " done)")

-- what may stand before a part of a text, and what behind it
data Before : ℕ → Type 0 where
  space : Before 32
  bracket : Before 40

data Behind : List ℕ → Type 0 where
  end : Behind []
  space : {u : List ℕ} → Behind (32 ∷ u)
  bracket : {u : List ℕ} → Behind (41 ∷ u)

no_digit : {u : List ℕ} → Behind u → digit (get_or u 0 256) ≡ false
no_digit end = refl
no_digit space = refl
no_digit bracket = refl

-- a bracket is before what a space is before
same_behind : (kind : Numbers) → behind kind 40 ≡ behind kind 32
same_behind Locations = refl
same_behind Integers = refl

module _ (kind : Numbers) where
  -- no number begins behind a part, so the byte before does not matter there
  any : {u : List ℕ} (p q : ℕ) → Behind u → marks kind p u ≡ marks kind q u
  unfolding marks large
  any p q end = refl
  any p q space = refl
  any p q bracket = refl

  not_behind : (l : Numbers) (d : ℕ) → (47 < d) × (d < 58) → behind l d ≡ false
  not_behind Locations d h = rw (ne_eqb d 108 (λ e. omega arith))
  not_behind Integers d h = rw (ne_eqb d 32 (λ e. omega arith), ne_eqb d 40 (λ e. omega arith))

  -- m are the marks of t where the byte p is before it, and something that ends a part behind it; or anything, with q as the last byte of t
  record Tells (p : ℕ) (t : List ℕ) (m : List Bool) : Type 0 where
    tells : (u : List ℕ) → Behind u → marks kind p (t ++ u) ≡ m ++ marks kind 0 u

  record Opens (p : ℕ) (t : List ℕ) (m : List Bool) (q : ℕ) : Type 0 where
    opens : (x : List ℕ) → marks kind p (t ++ x) ≡ m ++ marks kind q x

  -- a digit behind a digit is no number's first
  more_digits : {ds : List ℕ} (d : ℕ) → digit d ≡ true → Digits ds → Tells d ds (blank ds)
  unfolding marks large
  more_digits d h none = record { tells = λ u c. any d 0 c }
  more_digits d h (◌then◌ {d = x} k ks) =
      let b = digit_is x k in
      record { tells = λ u c. rw (ne_eqb x 45 (λ e. omega arith), k, not_behind kind d (digit_is d h), (more_digits x k ks).tells u c) }

  noted : (n : ℕ) {u : List ℕ} → Behind u → value (decimal n ++ u) ≡ n
  noted n {u} c = rw (digits_front u (no_digit c) (digits_decimal n)) (value_decimal n)

  number : (p n : ℕ) → Tells p (decimal n) (first (behind kind p && ltb (bound kind) n) (decimal n))
  unfolding marks large
  number p n = record { tells = λ u c. go u c (digits_decimal n) (noted n c) }
    where
      go : {ds : List ℕ} (u : List ℕ) → Behind u → Digits ds → value (ds ++ u) ≡ n
          → marks kind p (ds ++ u) ≡ first (behind kind p && ltb (bound kind) n) ds ++ marks kind 0 u
      go u c none v = any p 0 c
      go u c (◌then◌ {d} h hs) v = let b = digit_is d h in rw (ne_eqb d 45 (λ e. omega arith), h, v, (more_digits d h hs).tells u c)

  minus_first : (l : Numbers) (n : ℕ) → behind l 45 && ltb (bound l) n ≡ false
  minus_first Locations n = refl
  minus_first Integers n = refl

  bare : {p q : ℕ} (b : List ℕ) → ((x : List ℕ) → marks kind p (b ++ x) ≡ blank b ++ marks kind q x) → Opens p b (blank b) q
  bare b f = record { opens = f }

  -- a part, and bytes with no mark behind it
  piece : {p q q' : ℕ} {w t : List ℕ} {m n : List Bool} → Opens p w m q → Tells q t n
      → (b : List ℕ) → ((x : List ℕ) → Behind (b ++ x)) → ((x : List ℕ) → marks kind 0 (b ++ x) ≡ blank b ++ marks kind q' x)
      → Opens p (w ++ t ++ b) (m ++ n ++ blank b) q'
  piece {t = t} before part b ends after =
      record { opens = λ x. simp append_assoc (rw (before.opens (t ++ (b ++ x)), part.tells (b ++ x) (ends x), after x)) }

  ended : {p q : ℕ} {t : List ℕ} {m : List Bool} → Opens p t m q → Tells p t m
  ended {q = q} o = record { tells = λ u c. rw (o.opens u, any q 0 c) }

  marked : (e : Expr) {p : ℕ} → Before p → Tells p (text e) (flags kind e)
  unfolding text marks large flags
  marked (int (pos n)) space = number 32 n
  marked (int (pos n)) bracket = rw (← same_behind kind) (number 40 n)
  marked (int (negsuc n)) b = record { tells = λ u c. rw ((number 45 (suc n)).tells u c, minus_first kind (suc n), noted (suc n) c) }
  marked (bool true) b = ended (bare (bytes "true") (λ x. refl))
  marked (bool false) b = ended (bare (bytes "false") (λ x. refl))
  marked (e₁ ‹ plus # i › e₂) b =
      ended (piece (piece (bare (bytes "(") (λ x. refl)) (marked e₁ bracket) (bytes " + ") (λ x. space) (λ x. refl)) (marked e₂ space) (bytes ")") (λ x. bracket) (λ x. refl))
  marked (e₁ ‹ geq # i › e₂) b =
      ended (piece (piece (bare (bytes "(") (λ x. refl)) (marked e₁ bracket) (bytes " >= ") (λ x. space) (λ x. refl)) (marked e₂ space) (bytes ")") (λ x. bracket) (λ x. refl))
  marked (if e₁ then' e₂ else e₃) b =
      let t = piece (bare (bytes "(if ") (λ x. refl)) (marked e₁ space) (bytes " then ") (λ x. space) (λ x. refl) in
      ended (piece (piece t (marked e₂ space) (bytes " else ") (λ x. space) (λ x. refl)) (marked e₃ space) (bytes ")") (λ x. bracket) (λ x. refl))
  marked (l := e) b =
      ended (piece (piece (bare (bytes "(l") (λ x. refl)) (number 108 l) (bytes " := ") (λ x. space) (λ x. refl)) (marked e space) (bytes ")") (λ x. bracket) (λ x. refl))
  marked (! l) b = record { tells = λ u c. rw ((number 108 l).tells u c) }
  marked skip b = ended (bare (bytes "skip") (λ x. refl))
  marked (e₁ ⨾ e₂) b =
      ended (piece (piece (bare (bytes "(") (λ x. refl)) (marked e₁ bracket) (bytes " ; ") (λ x. space) (λ x. refl)) (marked e₂ space) (bytes ")") (λ x. bracket) (λ x. refl))
  marked (while e₁ do' e₂ done) b =
      ended (piece (piece (bare (bytes "(while ") (λ x. refl)) (marked e₁ space) (bytes " do ") (λ x. space) (λ x. refl)) (marked e₂ space) (bytes " done)") (λ x. space) (λ x. refl))

  length_marks : (p : ℕ) (u : List ℕ) → length (marks kind p u) ≡ length u
  unfolding marks
  length_marks p [] = refl
  length_marks p (b ∷ u) = ap suc (length_marks b u)

  pub whole : (e : Expr) → marks kind 32 (text e) ≡ flags kind e
  unfolding marks
  whole e = ap (marks kind 32) (sym (append-nil (text e))) ∙ (marked e space).tells [] end ∙ append-nil (flags kind e)

  pub length_flags : (e : Expr) → length (flags kind e) ≡ length (text e)
  length_flags e = ap length (sym (whole e)) ∙ length_marks 32 (text e)
