-- The text around the part at work: what stands before it and behind it in its context.
use Rattle.std.specs.Prelude.{ℕ, zero, suc, List, [], ◌∷◌, ◌++◌, get_or}
use Rattle.l1.specs.Syntax.{plus, geq}
use Rattle.l1.specs.Text.{bytes, integer, sign, location, text}
use Rattle.machine.specs.Contexts.{Context, in_op1, in_op2, in_if3, in_assign2, in_seq2}
use Rattle.machine.specs.State.{blank}
use Rattle.machine.specs.declared.state.Frame.{Frame}
use Rattle.machine.specs.declared.state.Place.{Place}
use Rattle.machine.specs.declared.state.Place.TheVariants.{Blank, PlusLeft, GeqLeft, PlusRight, GeqRight, Test, Again, Store, First}

abbrev pub opening : Context → List ℕ
opening (in_op1 i o e₂) = bytes "("
opening (in_op2 i o n) = bytes "(" ++ integer n ++ sign o
opening (in_if3 e₂ e₃) = bytes "(if "
opening (in_assign2 l) = bytes "(" ++ location l ++ bytes " := "
opening (in_seq2 e₂) = bytes "("

abbrev pub closing : Context → List ℕ
closing (in_op1 i o e₂) = sign o ++ text e₂ ++ bytes ")"
closing (in_op2 i o n) = bytes ")"
closing (in_if3 e₂ e₃) = bytes " then " ++ text e₂ ++ bytes " else " ++ text e₃ ++ bytes ")"
closing (in_assign2 l) = bytes ")"
closing (in_seq2 e₂) = bytes " ; " ++ text e₂ ++ bytes ")"

-- of contexts, the innermost first
abbrev pub opens : List Context → List ℕ
opens [] = []
opens (f ∷ k) = opens k ++ opening f

abbrev pub closes : List Context → List ℕ
closes [] = []
closes (f ∷ k) = closing f ++ closes k

-- what opens a place needs none of the routine's bytes
abbrev pub opening_of : Place → List ℕ
opening_of Blank = bytes "("
opening_of (PlusLeft i) = bytes "("
opening_of (GeqLeft i) = bytes "("
opening_of (PlusRight i n) = bytes "(" ++ integer n ++ sign plus
opening_of (GeqRight i n) = bytes "(" ++ integer n ++ sign geq
opening_of (Test i) = bytes "(if "
opening_of (Again i) = bytes "(if "
opening_of (Store l) = bytes "(" ++ location l ++ bytes " := "
opening_of (First j) = bytes "("

-- of the places below h
abbrev pub opens_of : List Frame → ℕ → List ℕ
opens_of fs zero = []
opens_of fs (suc h) = opens_of fs h ++ opening_of (get_or fs h blank).place
