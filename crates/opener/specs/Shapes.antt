-- One node by its form: whether its children stand where they must, and its places, from its children's.
use Rattle.std.specs.Prelude.{ℕ, ◌+◌, ◌*◌, max, Bool, true, false, ◌&&◌, cond, eqb, leb}
use Rattle.routine.specs.declared.Form.{Form}
use Rattle.routine.specs.declared.Form.TheVariants.{Integer, Boolean, Plus, Geq, If, Assign, Deref, Skip, Seq, While, Unknown}
use Rattle.routine.specs.declared.Node.{Node}

-- which of bytes 2-7 a form uses: none, a number, or one, two or three children
pub data Shape : Type 0 where
  Leaf Number One Two Three Nothing : Shape

abbrev pub shape_of : Form → Shape
shape_of Integer = Number
shape_of Boolean = Leaf
shape_of Plus = Two
shape_of Geq = Two
shape_of If = Three
shape_of Assign = One
shape_of Deref = Leaf
shape_of Skip = Leaf
shape_of Seq = Two
shape_of While = Two
shape_of Unknown = Nothing

abbrev pub children_of : Shape → ℕ
children_of Leaf = 0
children_of Number = 0
children_of One = 1
children_of Two = 2
children_of Three = 3
children_of Nothing = 0

-- whether the second part is worked inside the form
abbrev pub is_inside : Form → Bool
is_inside Integer = false
is_inside Boolean = false
is_inside Plus = true
is_inside Geq = true
is_inside If = false
is_inside Assign = false
is_inside Deref = false
is_inside Skip = false
is_inside Seq = false
is_inside While = true
is_inside Unknown = false

-- the largest byte 1
abbrev pub arg_top : Form → ℕ
arg_top Integer = 0
arg_top Boolean = 1
arg_top Plus = 0
arg_top Geq = 0
arg_top If = 0
arg_top Assign = 255
arg_top Deref = 255
arg_top Skip = 0
arg_top Seq = 0
arg_top While = 0
arg_top Unknown = 0

-- the children x, y and z of node i, where q and r are the lowest nodes under the second and the third
abbrev pub placed : Shape → ℕ → ℕ → ℕ → ℕ → ℕ → ℕ → Bool
placed Leaf i x y z q r = eqb x 0 && eqb y 0 && eqb z 0
placed Number i x y z q r = eqb x 0
placed One i x y z q r = eqb (x + 1) i && eqb y 0 && eqb z 0
placed Two i x y z q r = eqb (y + 1) i && eqb (x + 1) q && eqb z 0
placed Three i x y z q r = eqb (z + 1) i && eqb (y + 1) r && eqb (x + 1) q
placed Nothing i x y z q r = false

-- the child c of node i, `has` being 1 where the node has it and else 0: right before the next child's lowest node where there is one more,
-- else right before the node
abbrev pub stands_by : ℕ → Bool → ℕ → ℕ → ℕ → Bool
stands_by has more c i low = eqb (c + has) (cond more low (has * i))

abbrev pub keeps_node : Node → ℕ → ℕ → ℕ → Bool
keeps_node d i q r = placed (shape_of d.form) i d.first d.second d.third q r && leb d.arg (arg_top d.form)

-- the places of a form whose children have p, q and r: a part inside the form has one more
abbrev pub places_by : Form → ℕ → ℕ → ℕ → ℕ
places_by f p q r = cond (leb 1 (children_of (shape_of f))) (max (max (p + 1) r) (q + cond (is_inside f) 1 0)) 0
