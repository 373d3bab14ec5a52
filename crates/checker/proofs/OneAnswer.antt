-- The contracts of `check` and of the admission leave one answer: any two that they allow for the same bytes are the same.
use Prim.Native.Nat.{ℕ}
use mathlib.Core.Path.{◌≡◌, refl, sym, ◌∙◌, ap}
use mathlib.Core.List.{List}
use Rattle.std.specs.Prelude.{Result, Ok, Err}
use Rattle.l1.specs.Syntax.{Ty, ty_int, ty_bool, ty_unit}
use Rattle.stored.specs.Answers.{Checks}
use Rattle.stored.specs.Refusals.{admission}
use Rattle.stored.proofs.Stages.{AllSingle, when_single, first_unique, passes_none}
use Rattle.stored.proofs.Admission.{admission_single}
use Rattle.stored.proofs.OneAnswer.{checks_unique}
use Rattle.routine.specs.Says.{refusal_of}
use Rattle.routine.specs.declared.Refusal.{Refusal}
use Rattle.routine.proofs.RefusalNames.{refusal_unique}
use Rattle.checker.specs.Rules.{type_of}
use Rattle.checker.specs.Says.{checked_of}
use Rattle.checker.specs.Admits.{lent_of, AdmissionSays}
use Rattle.checker.specs.declared.Ty as Code
use Rattle.checker.specs.declared.Ty.TheVariants.{Int, Bool, Unit}
use Rattle.checker.specs.declared.Told.{Told}
use Rattle.checker.specs.declared.admission.Lent.{Lent}
use Rattle.checker.specs.declared.admission.Lent.TheVariants.{Nothing, Store, Input}
use Rattle.checker.specs.declared.admission.Row.{Row}

-- the code's case for a type
back : Ty → Code.Ty
back ty_int = Int
back ty_bool = Bool
back ty_unit = Unit

back_again : (t : Code.Ty) → back (type_of t) ≡ t
unfolding back
back_again Int = refl
back_again Bool = refl
back_again Unit = refl

told_unique : (t t' : Told) → type_of t.ty ≡ type_of t'.ty → t.working ≡ t'.working → t.reads ≡ t'.reads → t.writes ≡ t'.writes → t ≡ t'
told_unique t t' ty working reads writes =
    let q : t.ty ≡ t'.ty = sym (back_again t.ty) ∙ ap back ty ∙ back_again t'.ty in
    λ i. record { ty = q i; working = working i; reads = reads i; writes = writes i }

checked_unique : (r r' : Result Told Refusal) → checked_of r ≡ checked_of r' → r ≡ r'
checked_unique (Err r) (Err r') e = let q : refusal_of r ≡ refusal_of r' = cc in ap Err (refusal_unique q)
checked_unique (Err r) (Ok t) e = cc
checked_unique (Ok t) (Err r) e = cc
checked_unique (Ok t) (Ok t') e =
    let ty : type_of t.ty ≡ type_of t'.ty = cc in
    let w : t.working ≡ t'.working = cc in
    let r : t.reads ≡ t'.reads = cc in
    let s : t.writes ≡ t'.writes = cc in
    ap Ok (told_unique t t' ty w r s)

pub one_check : {b : List ℕ} {r r' : Result Told Refusal} → Checks b (checked_of r) → Checks b (checked_of r') → r ≡ r'
one_check {b} {r} {r'} c c' = checked_unique r r' (checks_unique b c c')

lent_single : (b : List ℕ) (lent : Lent) → AllSingle (lent_of b lent)
lent_single b Nothing = tt
lent_single b (Store entries) = (when_single, tt)
lent_single b (Input after) = (when_single, tt)

pub one_admission : (b : List ℕ) (lent : Lent) (r r' : Result Row Refusal) → AdmissionSays b lent r → AdmissionSays b lent r' → r ≡ r'
one_admission b lent (Err r) (Err r') f f' =
    ap Err (refusal_unique (first_unique (admission b (lent_of b lent)) (admission_single b (lent_of b lent) (lent_single b lent)) f f'))
one_admission b lent (Err r) (Ok x) f k = absurd (passes_none k.passes f)
one_admission b lent (Ok x) (Err r) k f = absurd (passes_none k.passes f)
one_admission b lent (Ok x) (Ok x') k k' =
    let y = k.tells in
    let y' = k'.tells in
    let program : x.program ≡ x'.program = k.itself ∙ sym k'.itself in
    let told : x.told ≡ x'.told =
    told_unique x.told x'.told (y.its_type ∙ sym y'.its_type) (y.its_working ∙ sym y'.its_working) (y.its_reads ∙ sym y'.its_reads)
    (y.its_writes ∙ sym y'.its_writes) in
    λ i. Ok (record { program = program i; told = told i })
