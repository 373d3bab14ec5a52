-- The forms by their kinds, what the eight bytes of a node hold, and the tree of a node by its form.
use Rattle.std.specs.Prelude.{ℕ, ◌+◌, ◌*◌, ◌<◌, ◌/◌, ◌%◌, ◌^◌, List, [], ◌∷◌, eqb, ℤ, get_or}
use Rattle.l1.specs.Syntax.{plus, geq, Expr, int, bool, ◌‹◌#◌›◌, if◌then'◌else◌, ◌:=◌, !◌, skip, ◌⨾◌, while◌do'◌done}
use Rattle.stored.specs.Bytes.{signed}
use Rattle.stored.specs.Layout.{kind, arg, child1, child2, child3}
use Rattle.routine.specs.declared.Form.{Form}
use Rattle.routine.specs.declared.Form.TheVariants.{Integer, Boolean, Plus, Geq, If, Assign, Deref, Skip, Seq, While, Unknown}
use Rattle.routine.specs.declared.Node.{Node}

-- from kind 0 on
abbrev pub forms : List Form
forms = Integer ∷ Boolean ∷ Plus ∷ Geq ∷ If ∷ Assign ∷ Deref ∷ Skip ∷ Seq ∷ While ∷ []

abbrev pub form_of : ℕ → Form
form_of k = get_or forms k Unknown

abbrev pub kind_of : Form → ℕ
kind_of Integer = 0
kind_of Boolean = 1
kind_of Plus = 2
kind_of Geq = 3
kind_of If = 4
kind_of Assign = 5
kind_of Deref = 6
kind_of Skip = 7
kind_of Seq = 8
kind_of While = 9
kind_of Unknown = 10

-- the digit of four bits that a table in one word holds of a form, that of kind 0 the last
unfoldable pub digit_of : ℕ → Form → ℕ
digit_of table f = table / 2 ^ (4 * (kind_of f % 16)) % 16

abbrev pub integer_of : List ℕ → ℕ → ℤ
integer_of b i = signed (child2 b i * 65536 + child3 b i)

abbrev pub node_of : List ℕ → ℕ → Node
node_of b i = record { form = form_of (kind b i); arg = arg b i; first = child1 b i; second = child2 b i; third = child3 b i; number = integer_of b i }

-- the tree of a form at node i, over the trees t of the nodes before it
abbrev pub make : Form → List ℕ → ℕ → (ℕ → Expr) → Expr
make Integer b i t = int (integer_of b i)
make Boolean b i t = bool (eqb (arg b i) 1)
make Plus b i t = t (child1 b i) ‹ plus # i › t (child2 b i)
make Geq b i t = t (child1 b i) ‹ geq # i › t (child2 b i)
make If b i t = if t (child1 b i) then' t (child2 b i) else t (child3 b i)
make Assign b i t = arg b i := t (child1 b i)
make Deref b i t = ! arg b i
make Skip b i t = skip
make Seq b i t = t (child1 b i) ⨾ t (child2 b i)
make While b i t = while t (child1 b i) do' t (child2 b i) done
make Unknown b i t = skip

-- the children that a form has stand before node i
abbrev pub Before : Form → List ℕ → ℕ → Type 0
Before Integer b i = Unit
Before Boolean b i = Unit
Before Plus b i = (child1 b i < i) × (child2 b i < i)
Before Geq b i = (child1 b i < i) × (child2 b i < i)
Before If b i = (child1 b i < i) × (child2 b i < i) × (child3 b i < i)
Before Assign b i = child1 b i < i
Before Deref b i = Unit
Before Skip b i = Unit
Before Seq b i = (child1 b i < i) × (child2 b i < i)
Before While b i = (child1 b i < i) × (child2 b i < i)
Before Unknown b i = ⊥
