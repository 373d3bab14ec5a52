-- The passes, byte by byte. The one over a number's digits holds what those before k note. The one over a text has no mark before i, and those from i
-- on still to come, so it finds the first or none.
use Prim.Native.Nat.{ℕ, suc, ◌+◌, ◌-◌, ◌*◌, ◌≤◌, ◌<◌}
use native.Mathlib.Decide.{dec_lt}
use native.Mathlib.Omega.{arith}
use native.Mathlib.Numerals.{add-one}
use mathlib.Core.Path.{◌≡◌, refl, sym, ◌∙◌, ap}
use mathlib.Core.Bool.{Bool, true, false}
use mathlib.Core.List.{List, [], ◌∷◌}
use borrow.Author.Tests.{lt-ltb, le-ltb}
use lib.Dec.{ltb}
use lib.ListN.{length, get_or, drop, take, length-drop, drop_of_length-le}
use Rattle.std.proofs.lemmas.List.{take_all}
use lib.Seq.{drop-cons}
use Rattle.std.specs.Prelude.{Some, None}
use Rattle.l1.specs.Syntax.{Expr}
use Rattle.l1.specs.Text.{text}
use Rattle.text_form.specs.Digits.{digit, digits_of, value_from}
use Rattle.text_form.proofs.Notation.{digit_is, is_digit}
use Rattle.text_limits.specs.declared.Numbers.{Numbers}
use Rattle.text_limits.specs.Limits.{Finds, finds_first, finds_none}
use Rattle.text_limits.specs.Marks.{large, marks}
use Rattle.text_limits.proofs.Flags.{flags, whole}
use Rattle.text_limits.proofs.Larges.{Marked, here, there, clash, not_blank, Past, large_marked, told}

pub at_byte : (t : List ℕ) (i : ℕ) → i < length t → drop i t ≡ get_or t i 0 ∷ drop (i + 1) t
at_byte t i h = rw add-one (drop-cons t i 0 h)

-- what is passed on of a slice that has no end
pub tail : (t : List ℕ) (i : ℕ) → take (length t - i) (drop i t) ≡ drop i t
tail t i = take_all (length t - i) (drop i t) (simp length-drop (omega arith))

no_digit : (b : ℕ) → (47 < b → b < 58 → ⊥) → digit b ≡ false
no_digit b n = go (digit b) refl
  where
    go : (x : Bool) → digit b ≡ x → x ≡ false
    go true e = absurd (let d = digit_is b e in n d.0 d.1)
    go false e = refl

-- v is noted by the digits before k, and x in all
module _ (t : List ℕ) (k v x : ℕ) (is : x ≡ value_from v (digits_of (drop k t))) where
  pub next_digit : {d : ℕ} → k < length t → (47 < get_or t k 0) × (get_or t k 0 < 58) → d ≡ get_or t k 0 - 48
      → x ≡ value_from (10 * v + d) (digits_of (drop (k + 1) t))
  unfolding digits_of value_from
  next_digit h r q = is ∙ rw (at_byte t k h, is_digit (get_or t k 0) r, q)

  pub no_digit_next : (m : ℕ) → (k < length t → 47 < get_or t k 0 → get_or t k 0 < 58 → ⊥) → v ≤ m → false ≡ ltb m x
  unfolding digits_of value_from
  no_digit_next m n l = sym (rw (is ∙ no_more) (le-ltb m v l))
    where
      no_more : value_from v (digits_of (drop k t)) ≡ v
      no_more =
          elim (dec_lt k (length t)) [
            | yes h ↦ rw (drop-cons t k 0 h, no_digit (get_or t k 0) (n h))
            | no h ↦ let p : length t ≤ k = omega arith in rw (drop_of_length-le t p)
          ]

pub high : (m v x : ℕ) (ds : List ℕ) → x ≡ value_from v ds → m < v → true ≡ ltb m x
unfolding value_from
high m v x [] is l = sym (lt-ltb m x (omega arith))
high m v x (d ∷ ds) is l = high m (10 * v + (d - 48)) x ds is (omega arith)

-- p is the byte before i
pub record Passed (t : List ℕ) (kind : Numbers) (i p : ℕ) : Type 0 where
  pub come : (j : ℕ) → Marked (marks kind 32 t) j → Past i (marks kind p (drop i t)) j
  pub stay : (j k : ℕ) → j ≡ i + k → Marked (marks kind p (drop i t)) k → Marked (marks kind 32 t) j

module _ (t : List ℕ) (kind : Numbers) where
  pub start : Passed t kind 0 32
  start = record { come = λ j h. record { from = j; is = omega arith; mark = h }; stay = λ j k e h. let q : j ≡ k = omega arith in rw q h }

  -- the marks of t, where it is the text of d
  shown : (d : Expr) → t ≡ text d → marks kind 32 t ≡ flags kind d
  shown d q = ap (marks kind 32) q ∙ whole kind d

  module _ (i p : ℕ) (s : Passed t kind i p) where
    module _ (l : i < length t) {x : Bool} (is : x ≡ large kind p (get_or t i 0) (drop (i + 1) t)) where
      next : marks kind p (drop i t) ≡ x ∷ marks kind (get_or t i 0) (drop (i + 1) t)
      unfolding marks
      next = rw (at_byte t i l, is)

      pub on : x ≡ false → Passed t kind (i + 1) (get_or t i 0)
      on e = record { come = λ j h. let y = s.come j h in go y.is (rw next at y.mark); stay = λ j k q h. s.stay j (suc k) (omega arith) (rw next (there h)) }
        where
          go : {m : List Bool} {j k : ℕ} → j ≡ i + k → Marked (x ∷ m) k → Past (i + 1) m j
          go q (here f) = clash (sym e ∙ f)
          go q (there {j = k} h) = record { from = k; is = omega arith; mark = h }

      pub found : x ≡ true → Finds t kind (Some i)
      found e =
          finds_first (λ d q. record {
            is = (told kind d).told i (rw (shown d q) at (s.stay i 0 (omega arith) (rw next (here e))));
            none_before = λ j h. omega (arith, (s.come j (rw (shown d q) (large_marked kind d j h))).is);
          })

    pub nowhere : length t ≤ i → Finds t kind None
    unfolding marks
    nowhere l = finds_none (λ d q j h. not_blank [] (rw (drop_of_length-le t l) at (s.come j (rw (shown d q) (large_marked kind d j h))).mark))
