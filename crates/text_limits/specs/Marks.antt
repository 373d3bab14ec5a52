-- What the passes compute of a row of bytes: where a number begins that is too large, and which bytes count a child of a node.
use Rattle.std.specs.Prelude.{ℕ, Bool, true, false, cond, ◌&&◌, ◌||◌, List, [], ◌∷◌, eqb, ltb}
use Rattle.text_form.specs.Digits.{digit, digits_of, value_from}
use Rattle.text_limits.specs.declared.Numbers.{Numbers}
use Rattle.text_limits.specs.declared.Numbers.TheVariants.{Locations, Integers}

-- the number noted by the digits in front
abbrev pub value : List ℕ → ℕ
value u = value_from 0 (digits_of u)

-- a location's number stands behind an l, an integer behind a space or a bracket
abbrev pub behind : Numbers → ℕ → Bool
behind Locations p = eqb p 108
behind Integers p = eqb p 32 || eqb p 40

abbrev pub bound : Numbers → ℕ
bound Locations = 255
bound Integers = 2147483647

-- a minus begins an integer, and no location's number
abbrev pub signed : Numbers → Bool
signed Locations = false
signed Integers = true

-- behind the byte p, b and then u begin with a number that is too large: −2147483648 is not
unfoldable pub large : Numbers → ℕ → ℕ → List ℕ → Bool
large n p b u = cond (eqb b 45) (signed n && ltb 2147483648 (value u)) ((digit b && behind n p) && ltb (bound n) (value (b ∷ u)))

-- this of each byte
unfoldable pub marks : Numbers → ℕ → List ℕ → List Bool
marks n p [] = []
marks n p (b ∷ u) = large n p b u ∷ marks n b u

-- ( + > ; h n
abbrev pub counted : ℕ → Bool
counted b = eqb b 40 || (eqb b 43 || (eqb b 62 || (eqb b 59 || (eqb b 104 || eqb b 110))))
