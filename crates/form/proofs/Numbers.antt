-- Numbers and words, as the readings of pieces find them.
use Prim.Native.Nat.{ℕ, ◌+◌, ◌≤◌, ◌<◌}
use native.Mathlib.Omega.{arith}
use mathlib.Core.Path.{◌≡◌, refl, sym, ◌∙◌}
use mathlib.Core.Bool.{Bool, true, false}
use mathlib.Core.List.{List, ◌∷◌}
use mathlib.Core.Option.{some}
use borrow.Author.Tests.{ne_eqb, ltb-true, lt-ltb}
use lib.Dec.{ltb}
use lib.ListN.{length, get_or}
use Rattle.text_form.proofs.Notation.{and_both}
use Rattle.std.specs.Prelude.{Result, Ok, Err}
use Rattle.std.specs.Result.{IsErrAnd}
use Rattle.std.proofs.lemmas.Result.{err_from_is_err_and}
use Rattle.text_form.specs.Automaton.{Stop, code, Sym, lit, natural, positive, more, begin, next}
use Rattle.text_form.specs.Digits.{digit, nonzero}
use Rattle.form.specs.Levels.{turned}
use Rattle.form.specs.Places.{At, Fits, Spelled, spelt, broken, Digits, Number, number, none}
use Rattle.form.specs.declared.Level.{Level}
use Rattle.form.proofs.Bytes.{in_range, past, byte, swap, stuck}

-- ---- the exit of a `?`

pub exit : {T : Type 0} (P : Result T ℕ → Type 0) (r : Result T ℕ) {k : ℕ} → IsErrAnd r (λ y. y ≡ k) → P (Err k) → P r
exit P r h p = let q = err_from_is_err_and r h in rw (q.1, q.2) p

-- ---- words

module _ {t : List ℕ} {i : ℕ} {w : List ℕ} where
  -- the text ends
  pub ends : {j k : ℕ} → Fits t i w j → j < length w → get_or w j 0 < 256 → k ≡ i + j → get_or t (i + j) 256 ≡ 256 → Spelled t i w (Err k)
  ends p l b q e = rw q (broken p l (λ z. omega arith))

  pub whole : {r : ℕ} → Fits t i w r → length w ≤ r → Spelled t i w (Ok (i + length w))
  whole {r} f l = let s = f.short in let e : r ≡ length w = omega arith in spelt (rw e at f)

-- ---- digits

-- a digit is no bracket
low : (b : ℕ) → 47 < b → (t : List ℕ) (i : ℕ) (ls : List Level) → turned t i b ls ≡ ls
low b l t i ls = rw (ne_eqb b 41 (λ e. omega arith), ne_eqb b 40 (λ e. omega arith))

nonzero_is : (b : ℕ) → 48 < b → b < 58 → nonzero b ≡ true
nonzero_is b l h = rw (lt-ltb 48 b l, lt-ltb b 58 h)

-- a digit before more digits, by whatever symbol
digit_on : {t : List ℕ} {i b : ℕ} {st st' : List Sym} {ls : List Level} → 47 < b → b < 58 → b ≡ get_or t i 256 → next st b ≡ some st' → At t i st ls → At t (i + 1) st' ls
digit_on {t} {i} {b} {st' = st'} {ls = ls} l h e q a = rw (low b l t i ls) at (byte a st' (sym e) (omega arith) q)

digit_is : (b : ℕ) → 47 < b → b < 58 → digit b ≡ true
digit_is b l h = rw (lt-ltb 47 b l, lt-ltb b 58 h)

no_digit_is : (b : ℕ) → (47 < b → b < 58 → ⊥) → digit b ≡ false
no_digit_is b n = go (digit b) refl
  where
    go : (d : Bool) → digit b ≡ d → digit b ≡ false
    go true q = let z = and_both (ltb 47 b) (ltb b 58) q in absurd (n (ltb-true 47 b z.0) (ltb-true b 58 z.1))
    go false q = q

-- digits from i up to k
pub record Passed (t : List ℕ) (i k : ℕ) : Type 0 where
  pub forth : i ≤ k
  pub short : k ≤ length t
  pub past : (c : Stop) (st : List Sym) (ls : List Level) → At t i (more c ∷ st) ls → At t k (more c ∷ st) ls

module _ {t : List ℕ} {i : ℕ} where
  module _ {k : ℕ} (p : Passed t i k) where
    pub one_digit : k < length t → 47 < get_or t k 0 → get_or t k 0 < 58 → Passed t i (k + 1)
    unfolding next begin
    one_digit n l h =
        let f = p.forth in
        record {
          forth = omega arith;
          short = omega arith;
          past = λ c st ls a. digit_on l h (in_range t k n) (rw (digit_is (get_or t k 0) l h)) (p.past c st ls a);
        }

    pub no_digit : k < length t → (47 < get_or t k 0 → get_or t k 0 < 58 → ⊥) → Digits t i k
    unfolding next begin
    no_digit n d = record {
      forth = p.forth;
      short = p.short;
      past = λ c st ls a. swap (p.past c st ls a) (lit (code c) ∷ st) (sym (in_range t k n)) (rw (no_digit_is (get_or t k 0) d));
    }

    pub digits_end : length t ≤ k → Digits t i (length t)
    unfolding next begin
    digits_end h =
        let q : length t ≡ k = omega (arith, p.short) in
        let f = p.forth in
        rw q (record { forth = p.forth; short = p.short; past = λ c st ls a. swap (p.past c st ls a) (lit (code c) ∷ st) (past t k h) refl })

-- ---- numbers

module _ {t : List ℕ} {i : ℕ} where
  module _ {k : ℕ} (q : k ≡ i) (e : get_or t i 256 ≡ 256) where
    pub positive_end : Number positive t i (Err k)
    unfolding next begin
    positive_end = rw q (none (λ c st ls a. stuck a e refl))

    pub natural_end : Number natural t i (Err k)
    unfolding next begin
    natural_end = rw q (none (λ c st ls a. stuck a e refl))

  module _ {x : ℕ} (hx : x ≡ get_or t i 256) where
    pub positive_past : {r : ℕ} → 48 < x → x < 58 → Digits t (i + 1) r → Number positive t i (Ok r)
    unfolding next begin
    positive_past l h ds =
        let f = ds.forth in
        number (record { forth = omega arith; short = ds.short; past = λ c st ls a. ds.past c st ls (digit_on (omega arith) h hx (rw (nonzero_is x l h)) a) })

    pub positive_none : (48 < x → x < 58 → ⊥) → Number positive t i (Err i)
    unfolding next begin
    positive_none n = none (λ c st ls a. stuck a (sym hx) (rw (go (nonzero x) refl)))
      where
        go : (d : Bool) → nonzero x ≡ d → nonzero x ≡ false
        go true q = let b = and_both (ltb 48 x) (ltb x 58) q in absurd (n (ltb-true 48 x b.0) (ltb-true x 58 b.1))
        go false q = q

    pub natural_zero : x ≡ 48 → i < length t → Number natural t i (Ok (i + 1))
    unfolding next begin
    natural_zero e n =
        number (record { forth = omega arith; short = omega arith; past = λ c st ls a. byte a (lit (code c) ∷ st) (sym hx ∙ e) (omega arith) refl })

    pub natural_other : {r : Result ℕ ℕ} → (x ≡ 48 → ⊥) → Number positive t i r → Number natural t i r
    unfolding next begin
    natural_other n (number p) = number (record {
      forth = p.forth;
      short = p.short;
      past = λ c st ls a. p.past c st ls (swap a (positive c ∷ st) (sym hx) (rw (ne_eqb x 48 n)));
    })
    natural_other n (none f) = none (λ c st ls a. f c st ls (swap a (positive c ∷ st) (sym hx) (rw (ne_eqb x 48 n))))
