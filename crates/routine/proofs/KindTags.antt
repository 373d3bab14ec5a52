-- The tag of a form is its kind.
use mathlib.Core.Path.{◌≡◌, refl}
use Prim.Native.Nat.{◌<◌}
use native.Mathlib.Omega.{arith}
use denote.Enum.Declared.{tag_of}
use Rattle.routine.specs.contracts.Form.{the_type}
use Rattle.routine.specs.declared.Form.{Form}
use Rattle.routine.specs.declared.Form.TheVariants.{Integer, Boolean, Plus, Geq, If, Assign, Deref, Skip, Seq, While, Unknown}
use Rattle.routine.specs.Forms.{kind_of}

pub tag_is_kind : (f : Form) → tag_of the_type f ≡ kind_of f
tag_is_kind Integer = refl
tag_is_kind Boolean = refl
tag_is_kind Plus = refl
tag_is_kind Geq = refl
tag_is_kind If = refl
tag_is_kind Assign = refl
tag_is_kind Deref = refl
tag_is_kind Skip = refl
tag_is_kind Seq = refl
tag_is_kind While = refl
tag_is_kind Unknown = refl

pub kind_below : (f : Form) → kind_of f < 16
kind_below Integer = omega arith
kind_below Boolean = omega arith
kind_below Plus = omega arith
kind_below Geq = omega arith
kind_below If = omega arith
kind_below Assign = omega arith
kind_below Deref = omega arith
kind_below Skip = omega arith
kind_below Seq = omega arith
kind_below While = omega arith
kind_below Unknown = omega arith
