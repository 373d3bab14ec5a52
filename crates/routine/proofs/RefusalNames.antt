-- No two of the code's refusals have the same number and value.
use mathlib.Core.Path.{◌≡◌, refl, sym, ◌∙◌, ap}
use mathlib.Core.Bool.{cond}
use lib.Dec.{eqb}
use Rattle.stored.specs.Stages as S
use Rattle.stored.specs.Stages.{no, no_with}
use Rattle.routine.specs.Says.{refusal_of}
use Rattle.routine.specs.declared.Refusal.{Refusal}
use Rattle.routine.specs.declared.Refusal.TheVariants.{Short, Count, Version, Locations, Nodes, Length, Layout, Forest, Places}
use Rattle.routine.specs.declared.Refusal.TheVariants.{Undeclared, First, Second, Branches, Store, Buffer, Input}

-- the refusal of a number, and of a number with its value; of a number that none has, the last
back : S.Refusal → Refusal
back (no c) =
    cond (eqb c 1) Short
    (cond (eqb c 2) Count
    (cond (eqb c 3) Version
    (cond (eqb c 4) Locations
    (cond (eqb c 5) Nodes
    (cond (eqb c 6) Length
    (cond (eqb c 8) Forest
    (cond (eqb c 9) Places
    (cond (eqb c 30) Store
    Input))))))))
back (no_with c i) =
    cond (eqb c 7) (Layout i)
    (cond (eqb c 20) (Undeclared i)
    (cond (eqb c 21) (First i)
    (cond (eqb c 22) (Second i)
    (cond (eqb c 23) (Branches i)
    (Buffer i)))))

back_again : (r : Refusal) → back (refusal_of r) ≡ r
unfolding back
back_again Short = refl
back_again Count = refl
back_again Version = refl
back_again Locations = refl
back_again Nodes = refl
back_again Length = refl
back_again (Layout i) = refl
back_again Forest = refl
back_again Places = refl
back_again (Undeclared i) = refl
back_again (First i) = refl
back_again (Second i) = refl
back_again (Branches i) = refl
back_again Store = refl
back_again (Buffer n) = refl
back_again Input = refl

pub refusal_unique : {r r' : Refusal} → refusal_of r ≡ refusal_of r' → r ≡ r'
refusal_unique {r} {r'} e = sym (back_again r) ∙ ap back e ∙ back_again r'
