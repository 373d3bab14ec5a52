-- What the machine's values mean: the work, the pending places and the endings.
use Rattle.std.specs.Prelude.{ℕ, zero, suc, ◌*◌, ◌<◌, List, [], ◌∷◌, Bool, false, ℤ, pos, get_or}
use Rattle.l1.specs.Syntax.{plus, geq, Expr, int, bool, skip, ◌⨾◌}
use Rattle.l1.specs.Run.{Outcome, value, overflow, fuel}
use Rattle.l1.specs.Measures.{size}
use Rattle.stored.specs.Layout.{kind, child2, child3}
use Rattle.stored.specs.Reader.{tree_at}
use Rattle.stored.specs.Refusals.{count}
use Rattle.routine.specs.declared.Form.{Form}
use Rattle.routine.specs.declared.Form.TheVariants.{Integer, Boolean, Plus, Geq, If, Assign, Deref, Skip, Seq, While, Unknown}
use Rattle.routine.specs.Forms.{form_of}
use Rattle.machine.specs.Contexts.{Context, in_op1, in_op2, in_if3, in_assign2, in_seq2, fill, left_to_search}
use Rattle.machine.specs.declared.state.Work.{Work}
use Rattle.machine.specs.declared.state.Work.TheVariants as w
use Rattle.machine.specs.declared.state.Place.{Place}
use Rattle.machine.specs.declared.state.Place.TheVariants as p
use Rattle.machine.specs.declared.state.Frame.{Frame}
use Rattle.machine.specs.declared.state.Ending.{Ending}
use Rattle.machine.specs.declared.state.Ending.TheVariants as e

-- ---- the work

abbrev pub expr_of : List ℕ → Work → Expr
expr_of b (w.Node i) = tree_at b i
expr_of b (w.Int n) = int n
expr_of b (w.Bool t) = bool t
expr_of b w.Skip = skip

-- a form that is no literal
abbrev pub Busy : Form → Type 0
Busy Integer = ⊥
Busy Boolean = ⊥
Busy Plus = Unit
Busy Geq = Unit
Busy If = Unit
Busy Assign = Unit
Busy Deref = Unit
Busy Skip = ⊥
Busy Seq = Unit
Busy While = Unit
Busy Unknown = ⊥

-- a work that is a node is a node of the routine and no literal
abbrev pub Seen : List ℕ → Work → Type 0
Seen b (w.Node i) = (i < count b) × Busy (form_of (kind b i))
Seen b (w.Int n) = Unit
Seen b (w.Bool t) = Unit
Seen b w.Skip = Unit

abbrev pub search_of : List ℕ → Work → ℕ
search_of b (w.Node i) = 2 * size (tree_at b i)
search_of b (w.Int n) = 0
search_of b (w.Bool t) = 0
search_of b w.Skip = 0

-- 1 where the work is a value: it stands in the place on top
abbrev pub takes_of : Work → ℕ
takes_of (w.Node i) = 0
takes_of (w.Int n) = 1
takes_of (w.Bool t) = 1
takes_of w.Skip = 1

abbrev pub number_of : Work → ℤ
number_of (w.Node i) = pos 0
number_of (w.Int n) = n
number_of (w.Bool t) = pos 0
number_of w.Skip = pos 0

abbrev pub truth_of : Work → Bool
truth_of (w.Node i) = false
truth_of (w.Int n) = false
truth_of (w.Bool t) = t
truth_of w.Skip = false

-- ---- the pending places

abbrev pub context_of : List ℕ → Place → Context
context_of b p.Blank = in_seq2 skip
context_of b (p.PlusLeft i) = in_op1 i plus (tree_at b (child2 b i))
context_of b (p.GeqLeft i) = in_op1 i geq (tree_at b (child2 b i))
context_of b (p.PlusRight i n) = in_op2 i plus n
context_of b (p.GeqRight i n) = in_op2 i geq n
context_of b (p.Test i) = in_if3 (tree_at b (child2 b i)) (tree_at b (child3 b i))
context_of b (p.Again i) = in_if3 (tree_at b (child2 b i) ⨾ tree_at b i) skip
context_of b (p.Store l) = in_assign2 l
context_of b (p.First j) = in_seq2 (tree_at b j)

-- the nodes of a place are nodes of the routine
abbrev pub Held : List ℕ → Place → Type 0
Held b p.Blank = ⊥
Held b (p.PlusLeft i) = (i < count b) × (child2 b i < count b)
Held b (p.GeqLeft i) = (i < count b) × (child2 b i < count b)
Held b (p.PlusRight i n) = Unit
Held b (p.GeqRight i n) = Unit
Held b (p.Test i) = (i < count b) × (child2 b i < count b) × (child3 b i < count b)
Held b (p.Again i) = (i < count b) × (child2 b i < count b)
Held b (p.Store l) = Unit
Held b (p.First j) = j < count b

-- what the next act works on: the node, or the value in the place on top
abbrev pub redex : List ℕ → Work → Place → Expr
redex b (w.Node i) f = tree_at b i
redex b (w.Int n) f = fill (context_of b f) (int n)
redex b (w.Bool t) f = fill (context_of b f) (bool t)
redex b w.Skip f = fill (context_of b f) skip

abbrev pub HeldUnder : List ℕ → Work → Place → Type 0
HeldUnder b (w.Node i) f = Unit
HeldUnder b (w.Int n) f = Held b f
HeldUnder b (w.Bool t) f = Held b f
HeldUnder b w.Skip f = Held b f

abbrev pub search_at : List ℕ → Work → Place → ℕ
search_at b (w.Node i) f = 2 * size (tree_at b i)
search_at b (w.Int n) f = left_to_search (context_of b f)
search_at b (w.Bool t) f = left_to_search (context_of b f)
search_at b w.Skip f = left_to_search (context_of b f)

abbrev pub blank : Frame
blank = record { place = p.Blank }

-- the contexts of the places below h
abbrev pub stack : List ℕ → List Frame → ℕ → List Context
stack b fs zero = []
stack b fs (suc h) = context_of b (get_or fs h blank).place ∷ stack b fs h

-- ---- endings

abbrev pub outcome_of : Ending → Outcome
outcome_of (e.Int n) = value (int n)
outcome_of (e.Bool t) = value (bool t)
outcome_of e.Skip = value skip
outcome_of (e.Overflow i) = overflow i
outcome_of e.Fuel = fuel

abbrev pub end_of : Work → Ending
end_of (w.Node i) = e.Fuel
end_of (w.Int n) = e.Int n
end_of (w.Bool t) = e.Bool t
end_of w.Skip = e.Skip
