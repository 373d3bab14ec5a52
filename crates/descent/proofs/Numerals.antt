-- A number is read digit by digit: what `number` has read, and what it finds.
use Prim.Native.Nat.{ℕ, ◌+◌, ◌-◌, ◌*◌, ◌≤◌, ◌<◌}
use native.Mathlib.Omega.{arith}
use native.Mathlib.Decide.{dec_lt}
use mathlib.Core.Path.{◌≡◌, refl, sym, ◌∙◌, ap}
use mathlib.Core.Bool.{true, false}
use mathlib.Core.List.{List, [], ◌∷◌}
use mathlib.Core.Option.{none, some}
use borrow.Author.Tests.{lt-ltb, le-ltb, ne_eqb}
use lib.ListN.{length, get_or, drop}
use Rattle.text_form.specs.Digits.{digit, nonzero, digits_of, beyond, value_from}
use Rattle.text_form.specs.Parser.{front}
use Rattle.text_form.specs.Parser as p
use Rattle.descent.proofs.Words.{not_past, front_at, from_here, behind_one}

grows : (ds : List ℕ) (n : ℕ) → n ≤ value_from n ds
unfolding value_from
grows [] n = omega arith
grows (c ∷ ds) n = omega (arith, grows ds (10 * n + (c - 48)))

not_nonzero : (b : ℕ) → digit b ≡ false → nonzero b ≡ false
not_nonzero b e =
    elim (dec_lt 48 b) [ yes l ↦ rw (lt-ltb 48 b l) (rw (lt-ltb 47 b (omega arith)) at e) | no l ↦ rw (le-ltb 48 b (omega arith)) refl ]

-- the digits from i to k have the value v; the first is no 0
pub record Digits (t : List ℕ) (i bound k v : ℕ) : Type 0 where
  pub forth : i ≤ k
  pub inside : k ≤ length t
  pub small : v ≤ bound
  pub value : value_from 0 (digits_of (drop i t)) ≡ value_from v (digits_of (drop k t))
  pub rest : beyond (drop i t) ≡ beyond (drop k t)
  pub first : i < k → nonzero (front (drop i t)) ≡ true

pub digits_first : (t : List ℕ) (i bound : ℕ) → i ≤ length t → Digits t i bound i 0
digits_first t i bound h = record { forth = omega arith; inside = h; small = omega arith; value = refl; rest = refl; first = λ l. absurd (omega arith) }

pub zero_number : (t : List ℕ) (i bound : ℕ) → front (drop i t) ≡ 48 → p.number bound (drop i t) ≡ some (p.number_of 0 (drop (i + 1) t))
unfolding p.number
zero_number t i bound h = rw (h, behind_one t i) refl

module _ {t : List ℕ} {i bound k v : ℕ} (d : Digits t i bound k v) (nz : front (drop i t) ≡ 48 → ⊥) where
  module _ {c : ℕ} (hc : front (drop k t) ≡ c) (l : 48 ≤ c) (h : c ≤ 57) where
    -- one digit more
    here : k < length t
    here = let e = front_at t k in not_past t k (omega arith)

    is_digit : digit c ≡ true
    is_digit = rw (lt-ltb 47 c (omega arith), lt-ltb c 58 (omega arith)) refl

    next : drop k t ≡ c ∷ drop (k + 1) t
    next = let e = from_here t k here in let f : get_or t k 0 ≡ c = sym (ap front e) ∙ hc in e ∙ rw f refl

    value_on : value_from 0 (digits_of (drop i t)) ≡ value_from (10 * v + (c - 48)) (digits_of (drop (k + 1) t))
    unfolding digits_of value_from
    value_on = d.value ∙ rw (next, is_digit) refl

    rest_on : beyond (drop i t) ≡ beyond (drop (k + 1) t)
    unfolding beyond
    rest_on = d.rest ∙ rw (next, is_digit) refl

    first_on : nonzero (front (drop i t)) ≡ true
    first_on =
        elim (dec_lt i k) [
          | yes z ↦ d.first z
          | no z ↦
              let f = d.forth in
              let e : i ≡ k = omega arith in
              let q : front (drop i t) ≡ c = rw e hc in
              let n : c ≡ 48 → ⊥ = λ x. nz (q ∙ x) in
              let b : 48 < c = omega (arith, n) in
              rw (q, lt-ltb 48 c b, lt-ltb c 58 (omega arith)) refl
        ]

    pub digits_on : 10 * v + (c - 48) ≤ bound → Digits t i bound (k + 1) (10 * v + (c - 48))
    digits_on s =
        let f = d.forth in let g = here in
        record { forth = omega arith; inside = omega arith; small = s; value = value_on; rest = rest_on; first = λ z. first_on }

    pub too_large : bound < 10 * v + (c - 48) → p.number bound (drop i t) ≡ none
    unfolding p.number
    too_large s =
        let g = grows (digits_of (drop (k + 1) t)) (10 * v + (c - 48)) in
        rw (ne_eqb _ 48 nz, first_on, value_on, lt-ltb bound (value_from (10 * v + (c - 48)) (digits_of (drop (k + 1) t))) (omega arith)) refl

  module _ (ends : digit (front (drop k t)) ≡ false) where
    -- no digit more
    stops : (u : List ℕ) → digit (front u) ≡ false → (digits_of u ≡ []) × (beyond u ≡ u)
    unfolding digits_of beyond
    stops [] e = (refl, refl)
    stops (b ∷ u) e = (rw e refl, rw e refl)

    pub none_there : k ≡ i → p.number bound (drop i t) ≡ none
    unfolding p.number
    none_there e = rw (ne_eqb _ 48 nz, not_nonzero (front (drop i t)) (rw e at ends)) refl

    pub all_there : (k ≡ i → ⊥) → p.number bound (drop i t) ≡ some (p.number_of v (drop k t))
    unfolding p.number value_from
    all_there n =
        let f = d.forth in
        let s = stops (drop k t) ends in
        let z : value_from 0 (digits_of (drop i t)) ≡ v = d.value ∙ rw s.0 refl in
        rw (ne_eqb _ 48 nz, d.first (omega (arith, n)), z, le-ltb bound v d.small, d.rest, s.1) refl
