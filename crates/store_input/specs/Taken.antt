-- The text in the input of `store`, and the bytes of a number that stand behind the routine.
use Rattle.std.specs.Prelude.{ℕ, ◌-◌, ◌/◌, ◌%◌, cond, List, ◌++◌, eqb, length, take, get_or}
use Rattle.stored.specs.Bytes.{two_bytes}

-- one line end at the end is not the text's
abbrev pub text_in : List ℕ → List ℕ
text_in b = cond (eqb (get_or b (length b - 1) 0) 10) (take (length b - 1) b) b

abbrev pub four_bytes : ℕ → List ℕ
four_bytes x = two_bytes (x / 65536) ++ two_bytes (x % 65536)
