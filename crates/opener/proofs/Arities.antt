-- The jump-free forms of a node's tests say what the definitions by shape say.
use Prim.Native.Nat.{ℕ, ◌+◌, ◌*◌, ◌/◌, ◌%◌, ◌^◌, ◌≤◌, ◌<◌}
use native.Mathlib.Nat.{add-zero, zero-mul, one-mul}
use native.Mathlib.Omega.{arith}
use mathlib.Core.Path.{◌≡◌, refl}
use mathlib.Core.Bool.{Bool, true, false, not, ◌&&◌, ◌||◌}
use lib.Dec.{eqb, leb}
use borrow.Author.Tests.{leb-true, leb-false, eq-eqb, ne_eqb}
use Rattle.routine.specs.declared.Form.{Form}
use Rattle.routine.specs.declared.Form.TheVariants.{Integer, Boolean, Plus, Geq, If, Assign, Deref, Skip, Seq, While, Unknown}
use Rattle.routine.specs.Forms.{digit_of}
use Rattle.opener.specs.Shapes.{shape_of, children_of, is_inside, arg_top, stands_by, placed}

-- what has no bit beyond a form's is not over the largest byte 1
told : (a k t : ℕ) → (a / k ≡ 0 → a ≤ t) → (a ≤ t → a / k ≡ 0) → eqb (a / k) 0 ≡ leb a t
told a k t to from = go (leb a t) refl
  where
    go : (u : Bool) → leb a t ≡ u → eqb (a / k) 0 ≡ u
    go true e = eq-eqb (a / k) 0 (from (leb-true a t e))
    go false e = ne_eqb (a / k) 0 (λ q. omega (arith, to q, leb-false a t e))

pub taken : (f : Form) (a : ℕ) → a < 256 → eqb (a / 2 ^ digit_of 0x00008800010 f) 0 ≡ leb a (arg_top f)
unfolding digit_of
taken Integer a l = told a 1 0 (λ q. omega arith) (λ q. omega arith)
taken Boolean a l = told a 2 1 (λ q. omega arith) (λ q. omega arith)
taken Plus a l = told a 1 0 (λ q. omega arith) (λ q. omega arith)
taken Geq a l = told a 1 0 (λ q. omega arith) (λ q. omega arith)
taken If a l = told a 1 0 (λ q. omega arith) (λ q. omega arith)
taken Assign a l = told a 256 255 (λ q. omega arith) (λ q. omega arith)
taken Deref a l = told a 256 255 (λ q. omega arith) (λ q. omega arith)
taken Skip a l = told a 1 0 (λ q. omega arith) (λ q. omega arith)
taken Seq a l = told a 1 0 (λ q. omega arith) (λ q. omega arith)
taken While a l = told a 1 0 (λ q. omega arith) (λ q. omega arith)
taken Unknown a l = told a 1 0 (λ q. omega arith) (λ q. omega arith)

-- the children that the table says a form has
pub children : (f : Form) → digit_of 0x8e20013ee04 f % 4 ≡ children_of (shape_of f)
unfolding digit_of
children Integer = refl
children Boolean = refl
children Plus = refl
children Geq = refl
children If = refl
children Assign = refl
children Deref = refl
children Skip = refl
children Seq = refl
children While = refl
children Unknown = refl

-- and whether its second part is inside
pub inside : (f : Form) → leb 12 (digit_of 0x8e20013ee04 f) ≡ is_inside f
unfolding digit_of
inside Integer = refl
inside Boolean = refl
inside Plus = refl
inside Geq = refl
inside If = refl
inside Assign = refl
inside Deref = refl
inside Skip = refl
inside Seq = refl
inside While = refl
inside Unknown = refl

-- the tests of `is_placed`, joined as it joins them, for a form that has a children
abbrev pub all_stand : Form → ℕ → ℕ → ℕ → ℕ → ℕ → ℕ → ℕ → Bool
all_stand f a i x y z q r =
    stands_by ((a + 3) / 4) (leb 2 a) x i q
    && (stands_by (a / 2) (leb 3 a) y i r && stands_by ((a + 1) / 4) false z i 0 || eqb (digit_of 0x8e20013ee04 f) 4)
    && not (eqb (digit_of 0x8e20013ee04 f) 8)

a_number : (a b c : Bool) → a && (b && c || true) && true ≡ a
a_number true true true = refl
a_number true true false = refl
a_number true false c = refl
a_number false b c = refl

in_order : (a b c : Bool) → a && (b && c || false) && true ≡ a && b && c
in_order true true true = refl
in_order true true false = refl
in_order true false c = refl
in_order false b c = refl

second_first : (a b c : Bool) → a && (b && c || false) && true ≡ b && a && c
second_first true true true = refl
second_first true true false = refl
second_first true false c = refl
second_first false true c = refl
second_first false false c = refl

third_first : (a b c : Bool) → a && (b && c || false) && true ≡ c && b && a
third_first true true true = refl
third_first true true false = refl
third_first true false true = refl
third_first true false false = refl
third_first false true true = refl
third_first false true false = refl
third_first false false true = refl
third_first false false false = refl

nowhere : (a : Bool) → a && false ≡ false
nowhere true = refl
nowhere false = refl

pub all_stand_lem : (f : Form) (i x y z q r : ℕ) → all_stand f (children_of (shape_of f)) i x y z q r ≡ placed (shape_of f) i x y z q r
unfolding digit_of
all_stand_lem Integer i x y z q r = simp (add-zero, zero-mul) (a_number (eqb x 0) (eqb y 0) (eqb z 0))
all_stand_lem Boolean i x y z q r = simp (add-zero, zero-mul) (in_order (eqb x 0) (eqb y 0) (eqb z 0))
all_stand_lem Plus i x y z q r = simp (add-zero, zero-mul, one-mul) (second_first (eqb (x + 1) q) (eqb (y + 1) i) (eqb z 0))
all_stand_lem Geq i x y z q r = simp (add-zero, zero-mul, one-mul) (second_first (eqb (x + 1) q) (eqb (y + 1) i) (eqb z 0))
all_stand_lem If i x y z q r = simp one-mul (third_first (eqb (x + 1) q) (eqb (y + 1) r) (eqb (z + 1) i))
all_stand_lem Assign i x y z q r = simp (add-zero, zero-mul, one-mul) (in_order (eqb (x + 1) i) (eqb y 0) (eqb z 0))
all_stand_lem Deref i x y z q r = simp (add-zero, zero-mul) (in_order (eqb x 0) (eqb y 0) (eqb z 0))
all_stand_lem Skip i x y z q r = simp (add-zero, zero-mul) (in_order (eqb x 0) (eqb y 0) (eqb z 0))
all_stand_lem Seq i x y z q r = simp (add-zero, zero-mul, one-mul) (second_first (eqb (x + 1) q) (eqb (y + 1) i) (eqb z 0))
all_stand_lem While i x y z q r = simp (add-zero, zero-mul, one-mul) (second_first (eqb (x + 1) q) (eqb (y + 1) i) (eqb z 0))
all_stand_lem Unknown i x y z q r = nowhere (eqb (x + 0) (0 * i) && (eqb (y + 0) (0 * i) && eqb (z + 0) (0 * i) || false))
