-- Decimal notation and digits in a row of bytes, both ways: the digits of a number are found, and any digits that do not begin with 0 are those of a number.
use Prim.Native.Nat.{ℕ, ◌+◌, ◌-◌, ◌*◌, ◌/◌, ◌%◌, ◌<◌}
use native.Mathlib.Omega.{arith}
use mathlib.Core.Path.{◌≡◌, refl, sym, ◌∙◌, ap}
use mathlib.Core.Bool.{Bool, true, false, ◌&&◌}
use mathlib.Core.List.Memᴰ
use mathlib.Core.List.{List, [], ◌∷◌, ◌++◌, append_assoc, append-nil}
use borrow.Author.Tests.{ltb-true, lt-ltb}
use lib.Dec.{ltb}
use lib.ListN.{get_or}
use Rattle.l1.specs.Text.{decimal}
use Rattle.l1.proofs.Membership.{All}
use Rattle.l1.proofs.Decimal.{Digit, Leads, leads, decimal_one, decimal_more, decimal_value, decimal_digits, no_leading_zero, value_after}
use Rattle.text_form.specs.Digits.{digit, nonzero, digits_of, beyond, value_from}

pub and_both : (a b : Bool) → a && b ≡ true → (a ≡ true) × (b ≡ true)
and_both true b e = (refl, e)
and_both false b e = absurd (let z : ◌≡◌ {A = ℕ} 0 1 = cc in omega arith)

-- the tests, in numbers
pub digit_is : (b : ℕ) → digit b ≡ true → (47 < b) × (b < 58)
digit_is b e = let p = and_both (ltb 47 b) (ltb b 58) e in (ltb-true 47 b p.0, ltb-true b 58 p.1)

pub is_digit : (b : ℕ) → (47 < b) × (b < 58) → digit b ≡ true
is_digit b h = rw (lt-ltb 47 b h.0, lt-ltb b 58 h.1)

pub nonzero_is : (b : ℕ) → nonzero b ≡ true → (48 < b) × (b < 58)
nonzero_is b e = let p = and_both (ltb 48 b) (ltb b 58) e in (ltb-true 48 b p.0, ltb-true b 58 p.1)

pub is_nonzero : (b : ℕ) → (48 < b) × (b < 58) → nonzero b ≡ true
is_nonzero b h = rw (lt-ltb 48 b h.0, lt-ltb b 58 h.1)

pub data Digits : List ℕ → Type 0 where
  none : Digits []
  ◌then◌ : {d : ℕ} {ds : List ℕ} → digit d ≡ true → Digits ds → Digits (d ∷ ds)

-- the digits in front of u, where no digit is
module _ (u : List ℕ) (stops : digit (get_or u 0 256) ≡ false) where
  pub digits_front : {ds : List ℕ} → Digits ds → digits_of (ds ++ u) ≡ ds
  unfolding digits_of
  digits_front none = none_of u stops
    where
      none_of : (v : List ℕ) → digit (get_or v 0 256) ≡ false → digits_of v ≡ []
      none_of [] e = refl
      none_of (b ∷ v) e = rw e
  digits_front (◌then◌ {d} h hs) = rw h (ap (λ (x : List ℕ). d ∷ x) (digits_front hs))

  pub digits_behind : {ds : List ℕ} → Digits ds → beyond (ds ++ u) ≡ u
  unfolding beyond
  digits_behind none = all_of u stops
    where
      all_of : (v : List ℕ) → digit (get_or v 0 256) ≡ false → beyond v ≡ v
      all_of [] e = refl
      all_of (b ∷ v) e = rw e
  digits_behind (◌then◌ h hs) = rw h (digits_behind hs)

-- any bytes are digits and something that begins with none
pub record Parted (u : List ℕ) : Type 0 where
  pub whole : u ≡ digits_of u ++ beyond u
  pub digits : Digits (digits_of u)
  pub stops : digit (get_or (beyond u) 0 256) ≡ false

pub parted : (u : List ℕ) → Parted u
unfolding digits_of beyond
parted [] = record { whole = refl; digits = none; stops = refl }
parted (b ∷ u) = go (digit b) refl (parted u)
  where
    go : (x : Bool) → digit b ≡ x → Parted u → Parted (b ∷ u)
    go true e p = record { whole = rw e (ap (λ (x : List ℕ). b ∷ x) p.whole); digits = rw e (◌then◌ e p.digits); stops = rw e p.stops }
    go false e p = record { whole = rw e refl; digits = rw e none; stops = rw e e }

-- the digits of a number
from_all : (ds : List ℕ) → All Digit ds → Digits ds
from_all [] a = none
from_all (d ∷ ds) a =
    let h = a.each d (Memᴰ.head refl) in
    ◌then◌ (is_digit d (omega arith)) (from_all ds (record { each = λ l m. a.each l (Memᴰ.tail m) }))

pub digits_decimal : (n : ℕ) → Digits (decimal n)
digits_decimal n = from_all (decimal n) (decimal_digits n)

pub zero_noted : decimal 0 ≡ 48 ∷ []
zero_noted = decimal_one 0 (omega arith)

pub record Noted (n : ℕ) : Type 0 where
  pub top : ℕ
  pub low : List ℕ
  pub is : decimal n ≡ top ∷ low
  pub leads : nonzero top ≡ true
  pub digits : Digits low

pub noted : (n : ℕ) → 0 < n → Noted n
noted n p = go (decimal n) refl (no_leading_zero n p)
  where
    go : (t : List ℕ) → decimal n ≡ t → Leads t → Noted n
    go t e (leads {c} {cs} h a) = below (from_all (c ∷ cs) a)
      where
        below : Digits (c ∷ cs) → Noted n
        below (◌then◌ q hs) = let r = digit_is c q in record { top = c; low = cs; is = e; leads = is_nonzero c (omega arith); digits = hs }

value_after_lem : (n : ℕ) (ds : List ℕ) → value_from n ds ≡ value_after n ds
unfolding value_from
value_after_lem n [] = refl
value_after_lem n (d ∷ ds) = value_after_lem (10 * n + (d - 48)) ds

pub value_decimal : (n : ℕ) → value_from 0 (decimal n) ≡ n
value_decimal n = value_after_lem 0 (decimal n) ∙ decimal_value n

-- the digits of n and then ds are those of a number
pub notes : (n : ℕ) {ds : List ℕ} → 0 < n → Digits ds → decimal (value_from n ds) ≡ decimal n ++ ds
unfolding value_from
notes n p none = sym (append-nil (decimal n))
notes n p (◌then◌ {d} {ds} h hs) =
    let b = digit_is d h in
    let m = 10 * n + (d - 48) in
    let q : m / 10 ≡ n = omega arith in
    let r : 48 + m % 10 ≡ d = omega arith in
    notes m (omega arith) hs ∙ rw (decimal_more m (omega arith), q, r) (append_assoc (decimal n) (d ∷ []) ds)

pub value_positive : (n : ℕ) (ds : List ℕ) → 0 < n → 0 < value_from n ds
unfolding value_from
value_positive n [] p = p
value_positive n (d ∷ ds) p = value_positive (10 * n + (d - 48)) ds (omega arith)

-- a digit other than 0, and more digits
module _ (d : ℕ) {ds : List ℕ} (h : nonzero d ≡ true) (hs : Digits ds) where
  pub from_digits : decimal (value_from 0 (d ∷ ds)) ≡ d ∷ ds
  unfolding value_from
  from_digits =
      let b = nonzero_is d h in
      let z : 10 * 0 + (d - 48) ≡ d - 48 = omega arith in
      let f : 48 + (d - 48) ≡ d = omega arith in
      rw z (notes (d - 48) (omega arith) hs ∙ rw (decimal_one (d - 48) (omega arith), f))

  pub from_positive : 0 < value_from 0 (d ∷ ds)
  unfolding value_from
  from_positive = let b = nonzero_is d h in value_positive (10 * 0 + (d - 48)) ds (omega arith)
