-- The text of a number is its digits, with a minus before those of a negative one.
use Prim.Native.Nat.{ℕ}
use native.Mathlib.Omega.{arith}
use mathlib.Core.Path.{◌≡◌, refl}
use mathlib.Core.Bool.{true, false}
use mathlib.Core.List.{[], ◌∷◌, ◌++◌}
use lib.IntN.{ℤ, pos, negsuc, nat_abs}
use lib.Signed.{lt_z}
use borrow.Author.Tests.{ltb-true}
use Rattle.l1.specs.Text.{decimal, integer}

pub negative_number : (n : ℤ) → lt_z n (pos 0) ≡ true → integer n ≡ (45 ∷ []) ++ decimal (nat_abs n)
negative_number (pos k) e = absurd (omega (arith, ltb-true k 0 e))
negative_number (negsuc k) e = refl

pub other_number : (n : ℤ) → lt_z n (pos 0) ≡ false → integer n ≡ decimal (nat_abs n)
other_number (pos k) e = refl
other_number (negsuc k) e = absurd (let z : ◌≡◌ {A = ℕ} 0 1 = cc in omega arith)
