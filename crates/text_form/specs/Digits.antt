-- Digits in a row of bytes, computed.
use Rattle.std.specs.Prelude.{ℕ, ◌+◌, ◌-◌, ◌*◌, Bool, true, false, cond, ◌&&◌, List, [], ◌∷◌, ltb}

abbrev pub digit : ℕ → Bool
digit b = ltb 47 b && ltb b 58

abbrev pub nonzero : ℕ → Bool
nonzero b = ltb 48 b && ltb b 58

-- the digits in front, and what is behind them
abbrev pub keep : Bool → ℕ → List ℕ → List ℕ
keep true b ds = b ∷ ds
keep false b ds = []

unfoldable pub digits_of : List ℕ → List ℕ
digits_of [] = []
digits_of (b ∷ u) = keep (digit b) b (digits_of u)

unfoldable pub beyond : List ℕ → List ℕ
beyond [] = []
beyond (b ∷ u) = cond (digit b) (beyond u) (b ∷ u)

-- the number noted by the digits of n and then the digits `cs`
unfoldable pub value_from : ℕ → List ℕ → ℕ
value_from n [] = n
value_from n (c ∷ cs) = value_from (10 * n + (c - 48)) cs
