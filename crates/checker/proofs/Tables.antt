-- What the words of `src/lib.rt` say of each form is what the definitions by form say.
use Prim.Native.Nat.{ℕ, ◌^◌, ◌<◌}
use native.Mathlib.Omega.{arith}
use mathlib.Core.Path.{◌≡◌, refl, sym, ap, ◌∙◌}
use mathlib.Core.Bool as B
use mathlib.Core.Bool.{true, false, not, ◌&&◌, ◌||◌, cond}
use mathlib.Core.List.{List, [], ◌∷◌}
use lib.Bits.{bit_or, or_zero_r}
use lib.Dec.{eqb, ltb}
use lib.ListN.{length, get_or, set}
use lib.Seq.{get_or-set_same, get_or-set_other}
use Rattle.l1.specs.Sets.{Use, reading, writing, word}
use Rattle.routine.specs.declared.Form.{Form}
use Rattle.routine.specs.declared.Form.TheVariants.{Integer, Boolean, Plus, Geq, If, Assign, Deref, Skip, Seq, While, Unknown}
use Rattle.routine.specs.Forms.{kind_of, digit_of}
use denote.Enum.Bare.{sameb}
use Rattle.checker.specs.contracts.Ty.{the_type}
use Rattle.checker.specs.declared.Ty.{Ty}
use Rattle.checker.specs.declared.Ty.TheVariants.{Int, Bool, Unit}
use Rattle.checker.specs.Rules.{no_of, fault_by, type_by, work_by, uses_by}

-- the type that `type_of` picks by a digit, q being the second child's
abbrev pub picked : ℕ → Ty → Ty
picked g q = cond (eqb g 3) q (cond (eqb g 0) Int (cond (eqb g 1) Bool Unit))

pub type_given : (f : Form) (q : Ty) → no_of (picked (digit_of 0x22320231010 f) q) ≡ type_by f (no_of q)
unfolding digit_of
type_given Integer q = refl
type_given Boolean q = refl
type_given Plus q = refl
type_given Geq q = refl
type_given If q = refl
type_given Assign q = refl
type_given Deref q = refl
type_given Skip q = refl
type_given Seq q = refl
type_given While q = refl
type_given Unknown q = refl

pub work_counted : (f : Form) → (digit_of 0x01101111100 f ≡ work_by f) × (digit_of 0x01101111100 f < 2)
unfolding digit_of
work_counted Integer = (refl, omega arith)
work_counted Boolean = (refl, omega arith)
work_counted Plus = (refl, omega arith)
work_counted Geq = (refl, omega arith)
work_counted If = (refl, omega arith)
work_counted Assign = (refl, omega arith)
work_counted Deref = (refl, omega arith)
work_counted Skip = (refl, omega arith)
work_counted Seq = (refl, omega arith)
work_counted While = (refl, omega arith)
work_counted Unknown = (refl, omega arith)

-- the kind that names a location in order to read it, and to write it
abbrev pub kind_for : Use → ℕ
kind_for reading = 6
kind_for writing = 5

-- the words by kind, once a node of form f was passed whose byte 1 is l
abbrev pub named : Form → ℕ → List ℕ → List ℕ
named f l w = set w (kind_of f) (bit_or (get_or w (kind_of f) 0) (2 ^ l))

module _ (l : ℕ) (w : List ℕ) (long : 10 < length w) where
  -- the word of another kind stays
  abbrev Stays : Use → Form → Type 0
  Stays u f = get_or (named f l w) (kind_for u) 0 ≡ bit_or (get_or w (kind_for u) 0) (word [])

  stays : (u : Use) (f : Form) → ¬ (kind_for u ≡ kind_of f) → Stays u f
  unfolding word
  stays u f other = get_or-set_other w (kind_of f) (kind_for u) _ 0 other ∙ sym (or_zero_r _)

  -- its own word gets the bit
  grows : (k : ℕ) → k < length w → get_or (set w k (bit_or (get_or w k 0) (2 ^ l))) k 0 ≡ bit_or (get_or w k 0) (word (l ∷ []))
  unfolding word
  grows k h = get_or-set_same w k _ 0 h ∙ ap (bit_or (get_or w k 0)) (sym (or_zero_r _))

  pub named_word : (u : Use) (f : Form) → get_or (named f l w) (kind_for u) 0 ≡ bit_or (get_or w (kind_for u) 0) (word (uses_by u f l))
  named_word reading Integer = stays reading Integer (λ e. absurd (omega arith))
  named_word reading Boolean = stays reading Boolean (λ e. absurd (omega arith))
  named_word reading Plus = stays reading Plus (λ e. absurd (omega arith))
  named_word reading Geq = stays reading Geq (λ e. absurd (omega arith))
  named_word reading If = stays reading If (λ e. absurd (omega arith))
  named_word reading Assign = stays reading Assign (λ e. absurd (omega arith))
  named_word reading Deref = grows 6 (omega arith)
  named_word reading Skip = stays reading Skip (λ e. absurd (omega arith))
  named_word reading Seq = stays reading Seq (λ e. absurd (omega arith))
  named_word reading While = stays reading While (λ e. absurd (omega arith))
  named_word reading Unknown = stays reading Unknown (λ e. absurd (omega arith))
  named_word writing Integer = stays writing Integer (λ e. absurd (omega arith))
  named_word writing Boolean = stays writing Boolean (λ e. absurd (omega arith))
  named_word writing Plus = stays writing Plus (λ e. absurd (omega arith))
  named_word writing Geq = stays writing Geq (λ e. absurd (omega arith))
  named_word writing If = stays writing If (λ e. absurd (omega arith))
  named_word writing Assign = grows 5 (omega arith)
  named_word writing Deref = stays writing Deref (λ e. absurd (omega arith))
  named_word writing Skip = stays writing Skip (λ e. absurd (omega arith))
  named_word writing Seq = stays writing Seq (λ e. absurd (omega arith))
  named_word writing While = stays writing While (λ e. absurd (omega arith))
  named_word writing Unknown = stays writing Unknown (λ e. absurd (omega arith))

-- the tests of `holds`, joined as it joins them
abbrev pub all_hold : Form → ℕ → ℕ → ℕ → ℕ → ℕ → B.Bool
all_hold f m l p q r =
    (eqb (digit_of 0x31233010033 f) 3 || eqb p (digit_of 0x31233010033 f)) && (eqb (digit_of 0x32333330033 f) 3 || eqb q (digit_of 0x32333330033 f))
    && (not (eqb (digit_of 0x00002210000 f) 1) || eqb r q) && (not (eqb (digit_of 0x00002210000 f) 2) || ltb l m)

-- one test after another, by the number that each gives where it fails
one : (a : B.Bool) → a && true && true && true ≡ eqb (cond a 0 21) 0
one true = refl
one false = refl

two : (a b : B.Bool) → a && b && true && true ≡ eqb (cond a (cond b 0 22) 21) 0
two true true = refl
two true false = refl
two false b = refl

branches : (a b : B.Bool) → a && true && b && true ≡ eqb (cond a (cond b 0 23) 21) 0
branches true true = refl
branches true false = refl
branches false b = refl

declared : (a : B.Bool) → a ≡ eqb (cond a 0 20) 0
declared true = refl
declared false = refl

assigned : (a b : B.Bool) → b && true && true && a ≡ eqb (cond a (cond b 0 21) 20) 0
assigned true true = refl
assigned true false = refl
assigned false true = refl
assigned false false = refl

pub rule_holds : (f : Form) (m l p q r : ℕ) → all_hold f m l p q r ≡ eqb (fault_by f m l p q r) 0
unfolding digit_of
rule_holds Integer m l p q r = refl
rule_holds Boolean m l p q r = refl
rule_holds Plus m l p q r = two (eqb p 0) (eqb q 0)
rule_holds Geq m l p q r = two (eqb p 0) (eqb q 0)
rule_holds If m l p q r = branches (eqb p 1) (eqb r q)
rule_holds Assign m l p q r = assigned (ltb l m) (eqb p 0)
rule_holds Deref m l p q r = declared (ltb l m)
rule_holds Skip m l p q r = refl
rule_holds Seq m l p q r = one (eqb p 2)
rule_holds While m l p q r = two (eqb p 1) (eqb q 2)
rule_holds Unknown m l p q r = refl

-- types are the same where their numbers are
pub same_by_number : (p q : Ty) → sameb the_type p q ≡ eqb (no_of p) (no_of q)
same_by_number Int Int = refl
same_by_number Int Bool = refl
same_by_number Int Unit = refl
same_by_number Bool Int = refl
same_by_number Bool Bool = refl
same_by_number Bool Unit = refl
same_by_number Unit Int = refl
same_by_number Unit Bool = refl
same_by_number Unit Unit = refl
