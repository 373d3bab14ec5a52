-- Tables with an entry for each node, read under a mask, one less than their length: any number of two bytes reads something there, and only
-- of a node's number is it said what.
use Rattle.std.specs.Prelude.{ℕ, ◌-◌, ◌<◌, ◌≡◌, List, get_or, length}
use Rattle.std.specs.Int.Bits.{bit_and}

-- a table of so many entries has one for each of n nodes, which the mask leaves where it is
abbrev pub Covers : ℕ → ℕ → Type 0
Covers entries n = (j : ℕ) → j < n → bit_and j (entries - 1) ≡ j

abbrev pub under : {A : Type 0} → A → List A → ℕ → A
under none table j = get_or table (bit_and j (length table - 1)) none
