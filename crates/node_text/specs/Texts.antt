-- The form and the text of a stored node.
use Rattle.std.specs.Prelude.{ℕ, List, ◌++◌}
use Rattle.l1.specs.Text.{bytes, text}
use Rattle.stored.specs.Layout.{kind}
use Rattle.stored.specs.Reader.{tree_at}
use Rattle.routine.specs.Forms.{form_of}
use Rattle.routine.specs.declared.Form.{Form}
use Rattle.routine.specs.declared.Form.TheVariants as f
use Rattle.node_text.specs.declared.Sign.{Sign}
use Rattle.node_text.specs.declared.Sign.TheVariants.{Plus, Geq, Seq}

abbrev pub form_at : List ℕ → ℕ → Form
form_at b i = form_of (kind b i)

abbrev pub text_at : List ℕ → ℕ → List ℕ
text_at b i = text (tree_at b i)

-- the form that has a sign between its two parts
abbrev pub form_with : Sign → Form
form_with Plus = f.Plus
form_with Geq = f.Geq
form_with Seq = f.Seq

abbrev pub sign_text : Sign → List ℕ
sign_text Plus = bytes " + "
sign_text Geq = bytes " >= "
sign_text Seq = bytes " ; "

-- the branches of an if, with what stands around them
abbrev pub branches : List ℕ → ℕ → ℕ → List ℕ
branches b c d = bytes " then " ++ text_at b c ++ bytes " else " ++ text_at b d ++ bytes ")"
