-- The length of a number's text: how many digits it has, and the sign.
use Prim.Native.Nat.{ℕ, suc, ◌+◌, ◌/◌, ◌≤◌, ◌<◌}
use native.Mathlib.Omega.{arith}
use mathlib.Core.Path.{◌≡◌, ap, ◌∙◌}
use mathlib.Core.Bool.{true, false}
use borrow.Author.Tests.{ltb-true}
use lib.IntN.{ℤ, pos, negsuc, nat_abs}
use lib.ListN.{length, length-append}
use lib.Signed.{lt_z, mag}
use Rattle.l1.specs.Text.{decimal, integer}
use Rattle.l1.proofs.Decimal.{decimal_one, decimal_more, decimal_length}

pub one_digit : (n : ℕ) → n < 10 → length (decimal n) ≡ 1
one_digit n h = ap length (decimal_one n h)

pub more_digits : (n : ℕ) → 10 ≤ n → length (decimal n) ≡ length (decimal (n / 10)) + 1
more_digits n h = ap length (decimal_more n h) ∙ simp length-append

-- a number of 64 bits
pub few_digits : (n : ℕ) → n < 18446744073709551616 → length (decimal n) ≤ 20
few_digits n h = decimal_length n 20 (omega arith) (omega arith)

pub with_sign : (z : ℤ) → lt_z z (pos 0) ≡ true → length (integer z) ≡ 1 + length (decimal (nat_abs z))
with_sign (pos n) e = absurd (omega (arith, ltb-true n 0 e))
with_sign (negsuc n) e = omega arith

pub without_sign : (z : ℤ) → lt_z z (pos 0) ≡ false → length (integer z) ≡ length (decimal (nat_abs z))
without_sign (pos n) e = omega arith
without_sign (negsuc n) e = absurd (let z : ◌≡◌ {A = ℕ} 0 1 = cc in omega arith)

-- an integer of 32 bits
pub few_bytes : (z : ℤ) → mag z < 2147483648 → length (integer z) ≤ 21
few_bytes (pos n) h = omega (arith, few_digits n (omega arith))
few_bytes (negsuc n) h = omega (arith, few_digits (suc n) (omega arith))
