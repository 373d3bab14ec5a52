-- The digits of a number that has one of them or two, and the last two of a longer one.
use Prim.Native.Nat.{ℕ, ◌+◌, ◌/◌, ◌%◌, ◌≤◌, ◌<◌}
use native.Mathlib.Omega.{arith}
use mathlib.Core.Path.{◌≡◌, ◌∙◌, ap}
use mathlib.Core.List.{List, [], ◌∷◌, ◌++◌, append_assoc}
use Rattle.l1.specs.Text.{decimal}
use Rattle.l1.proofs.Decimal.{decimal_one, decimal_more}

pub one_digit : (n : ℕ) → n < 10 → decimal n ≡ (48 + n % 10) ∷ []
one_digit n h = decimal_one n h ∙ ap (λ (d : ℕ). (48 + d) ∷ []) (omega arith)

pub two_digits : (n : ℕ) → 10 ≤ n → n < 100 → decimal n ≡ ((48 + n / 10 % 10) ∷ []) ++ (48 + n % 10) ∷ []
two_digits n h l = decimal_more n h ∙ ap (λ (t : List ℕ). t ++ (48 + n % 10) ∷ []) (one_digit (n / 10) (omega arith))

pub two_more : (n : ℕ) → 100 ≤ n → decimal n ≡ decimal (n / 100) ++ (48 + n / 10 % 10) ∷ (48 + n % 10) ∷ []
two_more n h =
    let tenth : n / 10 / 10 ≡ n / 100 = omega arith in
    decimal_more n h'
    ∙ ap (λ (t : List ℕ). t ++ (48 + n % 10) ∷ []) (decimal_more (n / 10) (omega arith))
    ∙ rw tenth (append_assoc (decimal (n / 100)) ((48 + n / 10 % 10) ∷ []) ((48 + n % 10) ∷ []))
  where
    h' : 10 ≤ n
    h' = omega arith
