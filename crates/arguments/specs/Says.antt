-- The number whose text a word is, or that there is none within the limits.
use Rattle.std.specs.Prelude.{ℕ, ◌≤◌, ◌<◌, ◌≡◌, List, ℤ, Option, None, Some}
use Rattle.l1.specs.Range.{InRange}
use Rattle.l1.specs.Text.{decimal, integer}
use Rattle.text_form.specs.Digits.{value_from}

abbrev pub ValueSays : List ℕ → ℕ → Option ℕ → Type 0
ValueSays s top None = top < value_from 0 s
ValueSays s top (Some n) = (n ≡ value_from 0 s) × (n ≤ top)

abbrev pub NaturalSays : List ℕ → ℕ → Option ℕ → Type 0
NaturalSays s top None = (n : ℕ) → n ≤ top → ¬ (s ≡ decimal n)
NaturalSays s top (Some n) = (s ≡ decimal n) × (n ≤ top)

abbrev pub IntegerSays : List ℕ → Option ℤ → Type 0
IntegerSays s None = (n : ℤ) → InRange n → ¬ (s ≡ integer n)
IntegerSays s (Some n) = (s ≡ integer n) × InRange n
