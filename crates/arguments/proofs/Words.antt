-- A word is the text of one number at most: the value of its digits. With `-` before it, of a negative one.
use Prim.Native.Nat.{ℕ, suc, ◌+◌, ◌-◌, ◌*◌, ◌≤◌, ◌<◌}
use native.Mathlib.Omega.{arith}
use mathlib.Core.Path.{◌≡◌, refl, sym, ap, ◌∙◌}
use mathlib.Core.List.Memᴰ
use mathlib.Core.List.{List, [], ◌∷◌}
use lib.IntN.{ℤ, pos, negsuc}
use lib.ListN.{length, take}
use lib.Seq.{sets-eq, take-append_seam}
use Rattle.l1.specs.Range.{InRange}
use Rattle.l1.specs.Text.{decimal, integer}
use Rattle.l1.proofs.Decimal.{decimal_digits}
use Rattle.l1.proofs.Range.{in_range_mag}
use Rattle.text_form.specs.Digits.{value_from}
use Rattle.text_form.proofs.Notation.{value_decimal}
use Rattle.node_text.specs.Put.{Put}

pub one_number : (m n : ℕ) → decimal m ≡ decimal n → m ≡ n
one_number m n e = sym (value_decimal m) ∙ ap (value_from 0) e ∙ value_decimal n

-- more digits make no number smaller
pub value_least : (v : ℕ) (s : List ℕ) → v ≤ value_from v s
unfolding value_from
value_least v [] = omega arith
value_least v (c ∷ s) = omega (arith, value_least (10 * v + (c - 48)) s)

module _ {s : List ℕ} where
  pub no_value : (top : ℕ) → top < value_from 0 s → (n : ℕ) → n ≤ top → ¬ (s ≡ decimal n)
  no_value top h n l e = omega (arith, ap (value_from 0) e, value_decimal n)

  pub no_text : (m : ℕ) → m ≡ value_from 0 s → ¬ (s ≡ decimal m) → (n : ℕ) → ¬ (s ≡ decimal n)
  no_text m q none n e = let same : m ≡ n = q ∙ ap (value_from 0) e ∙ value_decimal n in none (e ∙ ap decimal (sym same))

  pub none_negative : ((n : ℕ) → 0 < n → n ≤ 2147483648 → ¬ (s ≡ decimal n)) → (z : ℤ) → InRange z → ¬ (45 ∷ s ≡ integer z)
  none_negative none (pos n) r e = omega (arith, ((rw (sym e) at (decimal_digits n)).each 45 (Memᴰ.head refl)).not_below)
  none_negative none (negsuc n) r e = let q : s ≡ decimal (suc n) = cc in none (suc n) (omega arith) (omega (arith, in_range_mag r)) q

-- what was put at the start of a buffer
pub put_start : {b t c : List ℕ} {r : ℕ} → Put b 0 t c r → length t ≤ length b → take r c ≡ t
put_start {b} {t} w l =
    let z : 0 + length t ≡ length t = omega arith in rw (w.next, w.held, sets-eq t b 0 (omega arith), z) (take-append_seam t _)
