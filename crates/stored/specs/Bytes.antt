-- Numbers in bytes, big-endian: read from a list of bytes, and written. What stands past the end reads as 0, so that every question about
-- every list of bytes has an answer; 01's own tests come first and see to it that no accepted routine is read there.
use Rattle.std.specs.Prelude.{ℕ, ◌+◌, ◌-◌, ◌*◌, ◌/◌, ◌%◌, cond, List, [], ◌∷◌, ltb, ℤ, pos, negsuc, get_or}

abbrev pub byte : List ℕ → ℕ → ℕ
byte b at = get_or b at 0

-- bytes at and at + 1
abbrev pub pair : List ℕ → ℕ → ℕ
pair b at = byte b at * 256 + byte b (at + 1)

-- a number below 65,536 in two bytes
abbrev pub two_bytes : ℕ → List ℕ
two_bytes x = x / 256 ∷ x % 256 ∷ []

-- two's complement in 32 bits, and back; `negsuc n` is −(n + 1), that is 2^32 − 1 − n
abbrev pub unsigned : ℤ → ℕ
unsigned (pos n) = n
unsigned (negsuc n) = 4294967295 - n

unfoldable pub signed : ℕ → ℤ
signed u = cond (ltb u 2147483648) (pos u) (negsuc (4294967295 - u))
