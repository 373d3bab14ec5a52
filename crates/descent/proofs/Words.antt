-- The bytes of a text, and words: what `spelled` has left to compare.
use Prim.Native.Nat.{ℕ, zero, suc, ◌+◌, ◌≤◌, ◌<◌}
use native.Mathlib.Omega.{arith}
use native.Mathlib.Decide.{dec_lt}
use native.Mathlib.Numerals.{add-one}
use mathlib.Core.Path.{◌≡◌, refl, sym, ◌∙◌}
use mathlib.Core.Bool.{Bool, true, false, cond, not, true≢false}
use mathlib.Core.List.{List, [], ◌∷◌}
use mathlib.Core.Option.{Option, none, some}
use borrow.Author.Tests.{eq-eqb, eqb-true, ne_eqb}
use lib.Dec.{eqb}
use lib.ListN.{length, get_or, drop, drop_of_length-le, get_or-eq_default}
use lib.Seq.{drop-cons, drop-drop, get_or-drop}
use Rattle.std.specs.Prelude.{Some, None, nat_eq, unwrap_or}
use Rattle.std.specs.Prelude as S
use Rattle.std.specs.Option.{option_eq}
use Rattle.text_form.specs.Parser.{behind}

pub in_range : (t : List ℕ) (i : ℕ) → i < length t → get_or t i 0 ≡ get_or t i 256
in_range [] i h = absurd (omega arith)
in_range (b ∷ t) zero h = refl
in_range (b ∷ t) (suc i) h = in_range t i (omega arith)

pub past : (t : List ℕ) (i : ℕ) → length t ≤ i → get_or t i 256 ≡ 256
past t i h = get_or-eq_default t 256 h

-- a byte is not the end
pub not_past : (t : List ℕ) (i : ℕ) → get_or t i 256 < 256 → i < length t
not_past t i h = elim (dec_lt i (length t)) [ yes l ↦ l | no l ↦ absurd (omega (arith, past t i (omega arith))) ]

pub front_at : (t : List ℕ) (i : ℕ) → get_or (drop i t) 0 256 ≡ get_or t i 256
front_at t i = let z : i + 0 ≡ i = omega arith in rw z at (get_or-drop i t 0 256)

pub from_here : (t : List ℕ) (i : ℕ) → i < length t → drop i t ≡ get_or t i 0 ∷ drop (i + 1) t
from_here t i h = rw (add-one i) (drop-cons t i 0 h)

pub behind_one : (t : List ℕ) (i : ℕ) → drop 1 (drop i t) ≡ drop (i + 1) t
behind_one t i = drop-drop 1 i t

pub byte_there : (t : List ℕ) (i : ℕ) {b : ℕ} → b ≡ get_or t i 256 → b < 256 → i + 1 ≤ length t
byte_there t i e h = omega (arith, not_past t i (omega arith))

-- ---- words

either_none : {A : Type 0} (b : Bool) → ◌≡◌ {A = Option A} (cond b none none) none
either_none true = refl
either_none false = refl

pub short : (w u : List ℕ) → length u < length w → behind w u ≡ none
unfolding behind
short [] u h = absurd (omega arith)
short (a ∷ w) [] h = refl
short (a ∷ w) (b ∷ u) h = rw (short w u (omega arith)) (either_none (eqb b a))

-- j bytes of w are compared
pub record Spells (t : List ℕ) (i : ℕ) (w : List ℕ) (j : ℕ) : Type 0 where
  pub inside : j ≤ length w
  pub fits : i + length w ≤ length t
  pub left : behind w (drop i t) ≡ behind (drop j w) (drop (i + j) t)

pub spells_first : (t : List ℕ) (i : ℕ) (w : List ℕ) → i + length w ≤ length t → Spells t i w 0
spells_first t i w h = let z : i + 0 ≡ i = omega arith in record { inside = omega arith; fits = h; left = rw z refl }

module _ {t : List ℕ} {i : ℕ} {w : List ℕ} {j : ℕ} (s : Spells t i w j) where
  next : j < length w → behind w (drop i t) ≡ cond (eqb (get_or t (i + j) 0) (get_or w j 0)) (behind (drop (j + 1) w) (drop (i + j + 1) t)) none
  unfolding behind
  next h =
      let f = s.fits in
      s.left ∙ rw (from_here w j h, from_here t (i + j) (omega arith)) refl

  pub spells_on : j < length w → get_or t (i + j) 0 ≡ get_or w j 0 → Spells t i w (j + 1)
  spells_on h e =
      let z : i + (j + 1) ≡ i + j + 1 = omega arith in
      record { inside = omega arith; fits = s.fits; left = rw z (next h ∙ rw (eq-eqb _ _ e) refl) }

  pub misspelled : j < length w → (get_or t (i + j) 0 ≡ get_or w j 0 → ⊥) → behind w (drop i t) ≡ none
  misspelled h n = next h ∙ rw (ne_eqb _ _ n) refl

  pub spelt : length w ≤ j → behind w (drop i t) ≡ some (drop (i + length w) t)
  unfolding behind
  spelt h = let k = s.inside in let e : j ≡ length w = omega arith in s.left ∙ rw (drop_of_length-le w h, e) refl

-- ---- a test for a byte

pub is_byte : (r : S.Option ℕ) {b : ℕ} (x : ℕ) → unwrap_or r 256 ≡ b → true ≡ option_eq nat_eq r (Some x) → b ≡ x
is_byte None x e n = absurd (true≢false n)
is_byte (Some y) x e n = sym e ∙ eqb-true y x (sym n)

pub no_byte : (r : S.Option ℕ) {b : ℕ} (x : ℕ) → unwrap_or r 256 ≡ b → x < 256 → false ≡ option_eq nat_eq r (Some x) → b ≡ x → ⊥
no_byte None x e l n z = omega arith
no_byte (Some y) x e l n z = absurd (true≢false (sym (n ∙ eq-eqb y x (e ∙ z))))

pub when_not : (b : Bool) → true ≡ not b → false ≡ b
when_not true h = sym h
when_not false h = refl

pub unless_not : (b : Bool) → false ≡ not b → true ≡ b
unless_not true h = refl
unless_not false h = absurd (true≢false (sym h))
