-- 01, "The text": the bytes of an expression, of a value and of a rule's name, in the forms printed there, single spaces.
use Rattle.std.specs.Prelude.{ℕ, zero, suc, ◌+◌, ◌/◌, ◌%◌, Bool, true, false, List, [], ◌∷◌, ◌++◌, ltb, ℤ, pos, negsuc}
use Prim.Native.Char.{code}
use Prim.Native.String as S
use Prim.Native.String.{String}
use Rattle.l1.specs.Syntax.{Op, plus, geq, Loc, Expr, int, bool, ◌‹◌#◌›◌, if◌then'◌else◌, ◌:=◌, !◌, skip, ◌⨾◌, while◌do'◌done}
use Rattle.l1.specs.Steps.{Rule, by_plus, by_geq, by_deref, by_assign, by_seq, by_if_true, by_if_false, by_while}

-- the codes of the characters
abbrev pub bytes : String → List ℕ
bytes S.[] = []
bytes (S.◌∷◌ c s) = code c ∷ bytes s

-- the decimal digits of n and then those of `r`, where d + 1 digits are enough; 48 is the code of `0`
unfoldable pub digits : ℕ → ℕ → List ℕ → List ℕ
digits zero n r = (48 + n) ∷ r
digits (suc d) n r = elim (ltb n 10) [ true ↦ (48 + n) ∷ r | false ↦ digits d (n / 10) ((48 + n % 10) ∷ r) ]

-- "decimal integers with `-` before a negative one and no leading zeros"; n has no more than n + 1 digits
abbrev pub decimal : ℕ → List ℕ
decimal n = digits n n []

abbrev pub integer : ℤ → List ℕ
integer (pos n) = decimal n
integer (negsuc n) = bytes "-" ++ decimal (suc n)

abbrev pub truth : Bool → List ℕ
truth true = bytes "true"
truth false = bytes "false"

abbrev pub sign : Op → List ℕ
sign plus = bytes " + "
sign geq = bytes " >= "

abbrev pub location : Loc → List ℕ
location l = bytes "l" ++ decimal l

unfoldable pub text : Expr → List ℕ
text (int n) = integer n
text (bool b) = truth b
text (e₁ ‹ o # i › e₂) = bytes "(" ++ text e₁ ++ sign o ++ text e₂ ++ bytes ")"
text (if e₁ then' e₂ else e₃) = bytes "(if " ++ text e₁ ++ bytes " then " ++ text e₂ ++ bytes " else " ++ text e₃ ++ bytes ")"
text (l := e) = bytes "(" ++ location l ++ bytes " := " ++ text e ++ bytes ")"
text (! l) = bytes "!" ++ location l
text skip = bytes "skip"
text (e₁ ⨾ e₂) = bytes "(" ++ text e₁ ++ bytes " ; " ++ text e₂ ++ bytes ")"
text (while e₁ do' e₂ done) = bytes "(while " ++ text e₁ ++ bytes " do " ++ text e₂ ++ bytes " done)"

abbrev pub rule_name : Rule → List ℕ
rule_name by_plus = bytes "plus"
rule_name by_geq = bytes "geq"
rule_name by_deref = bytes "deref"
rule_name by_assign = bytes "assign"
rule_name by_seq = bytes "seq"
rule_name by_if_true = bytes "if-true"
rule_name by_if_false = bytes "if-false"
rule_name by_while = bytes "while"
