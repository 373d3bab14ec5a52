-- The bytes of a text and its end, one at a time and word by word: what is to come behind them.
use Prim.Native.Nat.{ℕ, zero, suc, ◌+◌, ◌≤◌, ◌<◌}
use native.Mathlib.Omega.{arith}
use native.Mathlib.Numerals.{add-one}
use native.Mathlib.Decide.{dec_lt}
use mathlib.Core.Path.{◌≡◌, refl}
use mathlib.Core.Bool.{Bool, true, ◌&&◌, not, cond}
use mathlib.Core.List.{List, [], ◌∷◌, ◌++◌}
use mathlib.Core.Option.{none, some}
use borrow.Author.Tests.{eq-eqb, ne_eqb, not-true, ltb-true}
use lib.Dec.{eqb, ltb}
use lib.ListN.{length, get_or, drop, length-append, get_or-eq_default}
use lib.Seq.{drop-cons}
use Rattle.text_form.specs.Automaton.{Sym, lit, word, begin, next, sticks, rest}
use Rattle.text_form.proofs.Notation.{and_both}
use Rattle.form.specs.declared.Level.{Level}
use Rattle.form.specs.Levels.{turned, levels}
use Rattle.form.specs.Places.{At, Off, Fits}

-- ---- an element with one default or another

pub in_range : (t : List ℕ) (i : ℕ) → i < length t → get_or t i 0 ≡ get_or t i 256
in_range [] i h = absurd (omega arith)
in_range (b ∷ t) zero h = refl
in_range (b ∷ t) (suc i) h = in_range t i (omega arith)

pub past : (t : List ℕ) (i : ℕ) → length t ≤ i → get_or t i 256 ≡ 256
past t i h = get_or-eq_default t 256 h

-- a byte is not the end
pub not_past : (t : List ℕ) (i : ℕ) → get_or t i 256 < 256 → i < length t
not_past t i h = elim (dec_lt i (length t)) [ yes l ↦ l | no l ↦ absurd (omega (arith, past t i (omega arith))) ]

get_d_end : (t : List ℕ) (i : ℕ) → i ≤ length t → get_or (t ++ 256 ∷ []) i 0 ≡ get_or t i 256
get_d_end [] zero h = refl
get_d_end [] (suc i) h = absurd (omega arith)
get_d_end (b ∷ t) zero h = refl
get_d_end (b ∷ t) (suc i) h = get_d_end t i (omega arith)

pub rest_cons : (t : List ℕ) (i : ℕ) → i ≤ length t → rest t i ≡ get_or t i 256 ∷ rest t (i + 1)
unfolding rest
rest_cons t i h =
    let l : i < length (t ++ 256 ∷ []) = rw length-append (omega arith) in
    rw (add-one i, drop-cons (t ++ 256 ∷ []) i 0 l, get_d_end t i h)

-- ---- one byte

module _ {t : List ℕ} {i : ℕ} {st : List Sym} {ls : List Level} (a : At t i st ls) where
  -- it fits
  pub byte : {b : ℕ} (st' : List Sym) → get_or t i 256 ≡ b → b < 256 → next st b ≡ some st' → At t (i + 1) st' (turned t i b ls)
  unfolding sticks levels
  byte {b} st' e l q =
      let h = a.inside in
      let n = not_past t i (omega arith) in
      let s : sticks st (rest t i) ≡ 1 + sticks st' (rest t (i + 1)) = rw (rest_cons t i h, e, q) in
      record { inside = omega arith; fits = omega (arith, a.fits); held = rw (add-one i, in_range t i n, e, a.held) }

  -- it fits no symbol
  pub stuck : {b : ℕ} → get_or t i 256 ≡ b → next st b ≡ none → Off t i
  unfolding sticks
  stuck e q =
      let h = a.inside in
      let s : sticks st (rest t i) ≡ 0 = rw (rest_cons t i h, e, q) in
      record { inside = h; fits = omega (arith, a.fits) }

  -- it does not tell other symbols from these
  pub swap : {b : ℕ} (st' : List Sym) → get_or t i 256 ≡ b → next st b ≡ next st' b → At t i st' ls
  unfolding sticks
  swap st' e q =
      let h = a.inside in
      let s : sticks st (rest t i) ≡ sticks st' (rest t i) = rw (rest_cons t i h, e, q) in
      record { inside = h; fits = omega (arith, a.fits); held = a.held }

-- ---- a word

-- bytes, none of them "("
abbrev plain_byte : ℕ → Bool
plain_byte b = ltb b 256 && not (eqb b 40)

abbrev pub plain : List ℕ → Bool
plain [] = true
plain (b ∷ w) = plain_byte b && plain w

-- the levels that are left behind it
abbrev pub shut : List ℕ → List Level → List Level
shut [] ls = ls
shut (b ∷ w) ls = shut w (cond (eqb b 41) (drop 1 ls) ls)

module _ {t : List ℕ} {i b : ℕ} {w : List ℕ} {r : ℕ} (f : Fits t i (b ∷ w) (suc r)) where
  fits_first : get_or t i 256 ≡ b
  fits_first = let z : i + 0 ≡ i = omega arith in rw z at (f.same 0 (omega arith))

  fits_tail : Fits t (i + 1) w r
  fits_tail =
      let s = f.short in let n = f.inside in
      let shift : (j : ℕ) → i + 1 + j ≡ i + suc j = λ j. omega arith in
      record { same = λ j l. rw (shift j) (f.same (suc j) (omega arith)); short = omega arith; inside = omega arith }

module _ {t : List ℕ} {ls : List Level} where
  first_on : {i : ℕ} (b : ℕ) (w : List ℕ) (st : List Sym) → plain (b ∷ w) ≡ true → get_or t i 256 ≡ b → At t i (lit b ∷ word w st) ls
      → At t (i + 1) (word w st) (cond (eqb b 41) (drop 1 ls) ls)
  unfolding next begin
  first_on b w st p e a =
      let q = and_both (ltb b 256) (not (eqb b 40)) (and_both (plain_byte b) (plain w) p).0 in
      rw (not-true (eqb b 40) q.1) at (byte a (word w st) e (ltb-true b 256 q.0) (rw (eq-eqb b b refl)))

pub word_on : {t : List ℕ} {i : ℕ} {ls : List Level} (w : List ℕ) (st : List Sym) → plain w ≡ true → Fits t i w (length w) → At t i (word w st) ls
    → At t (i + length w) st (shut w ls)
word_on {i = i} [] st p f a = let e : i + 0 ≡ i = omega arith in rw e a
word_on {i = i} (b ∷ w) st p f a =
    let s : i + 1 + length w ≡ i + suc (length w) = omega arith in
    rw s at (word_on {i = i + 1} w st (and_both (plain_byte b) (plain w) p).1 (fits_tail f) (first_on b w st p (fits_first f) a))

pub word_off : {t : List ℕ} {i r : ℕ} {ls : List Level} (w : List ℕ) (st : List Sym) → plain w ≡ true → Fits t i w r → r < length w
    → (get_or t (i + r) 256 ≡ get_or w r 0 → ⊥) → At t i (word w st) ls → Off t (i + r)
unfolding next begin
word_off [] st p f l n a = absurd (omega arith)
word_off {t} {i} {r = zero} (b ∷ w) st p f l n a =
    let z : i + 0 ≡ i = omega arith in
    rw z (stuck a refl (rw (ne_eqb (get_or t i 256) b (λ e. n (rw z e)))))
word_off {i = i} {r = suc r} (b ∷ w) st p f l n a =
    let s : i + 1 + r ≡ i + suc r = omega arith in
    rw s at (word_off {i = i + 1} w st (and_both (plain_byte b) (plain w) p).1 (fits_tail f) (omega arith) (λ e. n (rw s at e)) (first_on b w st p (fits_first f) a))
