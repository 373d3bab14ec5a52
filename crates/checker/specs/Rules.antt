-- One node by its form: the lowest number by which its own rule fails and the type that the rule gives, from its children's types (by
-- numbers, as `type_no` has them), and what W and the two sets get from it.
use Rattle.std.specs.Prelude.{ℕ, cond, List, [], eqb, ltb}
use Rattle.l1.specs.Syntax.{Loc, Ty, ty_int, ty_bool, ty_unit}
use Rattle.l1.specs.Judge.{type_no}
use Rattle.l1.specs.Sets.{Use, uses_of_deref, uses_of_assign}
use Rattle.routine.specs.declared.Form.{Form}
use Rattle.routine.specs.declared.Form.TheVariants.{Integer, Boolean, Plus, Geq, If, Assign, Deref, Skip, Seq, While, Unknown}
use Rattle.routine.specs.declared.Node.{Node}
use Rattle.opener.specs.Tables.{under}
use Rattle.checker.specs.declared.Ty as Code
use Rattle.checker.specs.declared.Ty.TheVariants as V'

-- c where a child has type number t and not T
abbrev pub wants_no : ℕ → Ty → ℕ → ℕ → ℕ
wants_no t T c rest = cond (eqb t (type_no T)) rest c

abbrev pub fault_by : Form → ℕ → Loc → ℕ → ℕ → ℕ → ℕ
fault_by Integer m l p q r = 0
fault_by Boolean m l p q r = 0
fault_by Plus m l p q r = wants_no p ty_int 21 (wants_no q ty_int 22 0)
fault_by Geq m l p q r = wants_no p ty_int 21 (wants_no q ty_int 22 0)
fault_by If m l p q r = wants_no p ty_bool 21 (cond (eqb r q) 0 23)
fault_by Assign m l p q r = cond (ltb l m) (wants_no p ty_int 21 0) 20
fault_by Deref m l p q r = cond (ltb l m) 0 20
fault_by Skip m l p q r = 0
fault_by Seq m l p q r = wants_no p ty_unit 21 0
fault_by While m l p q r = wants_no p ty_bool 21 (wants_no q ty_unit 22 0)
fault_by Unknown m l p q r = 0

abbrev pub type_by : Form → ℕ → ℕ
type_by Integer q = type_no ty_int
type_by Boolean q = type_no ty_bool
type_by Plus q = type_no ty_int
type_by Geq q = type_no ty_bool
type_by If q = q
type_by Assign q = type_no ty_unit
type_by Deref q = type_no ty_int
type_by Skip q = type_no ty_unit
type_by Seq q = q
type_by While q = type_no ty_unit
type_by Unknown q = type_no ty_unit

abbrev pub work_by : Form → ℕ
work_by Integer = 0
work_by Boolean = 0
work_by Plus = 1
work_by Geq = 1
work_by If = 1
work_by Assign = 1
work_by Deref = 1
work_by Skip = 0
work_by Seq = 1
work_by While = 1
work_by Unknown = 0

abbrev pub uses_by : Use → Form → Loc → List Loc
uses_by u Integer l = []
uses_by u Boolean l = []
uses_by u Plus l = []
uses_by u Geq l = []
uses_by u If l = []
uses_by u Assign l = uses_of_assign u l
uses_by u Deref l = uses_of_deref u l
uses_by u Skip l = []
uses_by u Seq l = []
uses_by u While l = []
uses_by u Unknown l = []

-- the type that a case of the code's answer names
abbrev pub type_of : Code.Ty → Ty
type_of V'.Int = ty_int
type_of V'.Bool = ty_bool
type_of V'.Unit = ty_unit

-- and its number
abbrev pub no_of : Code.Ty → ℕ
no_of t = type_no (type_of t)

-- the number of the type that the table has of child j
abbrev pub seen : List Code.Ty → ℕ → ℕ
seen types j = no_of (under V'.Int types j)

-- what is found of a node, s telling the numbers of its children's types
abbrev pub found_fault : ℕ → (ℕ → ℕ) → Node → ℕ
found_fault m s d = fault_by d.form m d.arg (s d.first) (s d.second) (s d.third)

abbrev pub found_type : (ℕ → ℕ) → Node → ℕ
found_type s d = type_by d.form (s d.second)
