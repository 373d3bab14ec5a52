-- A store that is filled with the values read from bytes, one more at a time.
use Prim.Native.Nat.{ℕ, zero, suc, ◌+◌, ◌*◌, ◌≤◌, ◌<◌}
use native.Mathlib.Nat.{add-zero}
use native.Mathlib.Omega.{arith}
use native.Mathlib.Numerals.{add-one}
use mathlib.Core.Path.{◌≡◌, refl, sym, ◌∙◌, ap, ap₂}
use mathlib.Core.List.{List, [], ◌∷◌, ◌++◌}
use lib.IntN.{ℤ}
use lib.ListN.{length, take, set}
use lib.Seq.{take-suc-set, take_all}
use Rattle.l1.specs.Store.{Store}
use Rattle.stored.specs.Bytes.{signed}
use Rattle.stored.specs.Trace.{four, values_from}

one_value_more : (b : List ℕ) (at i : ℕ) → values_from b at (suc i) ≡ values_from b at i ++ signed (four b (at + 4 * i)) ∷ []
one_value_more b at zero = ap (λ (k : ℕ). signed (four b k) ∷ []) (omega arith)
one_value_more b at (suc i) =
    ap (λ (s : Store). signed (four b at) ∷ s)
    (one_value_more b (at + 4) i ∙ ap (λ (k : ℕ). values_from b (at + 4) i ++ signed (four b k) ∷ []) (omega arith))

module _ (b : List ℕ) (at i : ℕ) (s : Store) (held : take i s ≡ values_from b at i) where
  pub value_set : (n : ℤ) → i < length s → n ≡ signed (four b (at + 4 * i)) → take (i + 1) (set s i n) ≡ values_from b at (i + 1)
  value_set n h e = rw (add-one i) (take-suc-set s i n h ∙ rw (held, e) (sym (one_value_more b at i)))

  pub values_set : (m : ℕ) → i ≤ length s → length s ≤ i → length s ≡ m → s ≡ values_from b at m
  values_set m h l e = let all : i ≡ m = omega arith in sym (take_all i s l) ∙ held ∙ ap (values_from b at) all

-- the values in a part of the bytes are those at their place in the whole
pub values_within : (b c : List ℕ) (at to m : ℕ) → ((k : ℕ) → k < m → four c (to + 4 * k) ≡ four b (at + 4 * k)) → values_from c to m ≡ values_from b at m
values_within b c at to zero same = refl
values_within b c at to (suc m) same =
    ap₂ (λ (n : ℕ) (s : Store). signed n ∷ s) (simp add-zero at (same 0 (omega arith)))
    (values_within b c (at + 4) (to + 4) m (λ k h. ap (four c) (omega arith) ∙ same (suc k) (omega arith) ∙ ap (four b) (omega arith)))
