-- What a node itself adds to the length of the text, by its form, its byte 1 and its number.
use Rattle.std.specs.Prelude.{ℕ, ◌+◌, eqb, ℤ, length}
use Rattle.l1.specs.Text.{decimal, integer, truth}
use Rattle.routine.specs.declared.Form.{Form}
use Rattle.routine.specs.declared.Form.TheVariants.{Integer, Boolean, Plus, Geq, If, Assign, Deref, Skip, Seq, While, Unknown}

abbrev pub own_length : Form → ℕ → ℤ → ℕ
own_length Integer l n = length (integer n)
own_length Boolean l n = length (truth (eqb l 1))
own_length Plus l n = 5
own_length Geq l n = 6
own_length If l n = 17
own_length Assign l n = 7 + length (decimal l)
own_length Deref l n = 2 + length (decimal l)
own_length Skip l n = 4
own_length Seq l n = 5
own_length While l n = 17
own_length Unknown l n = 0
