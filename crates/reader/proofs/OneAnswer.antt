-- The contract of `read` leaves one answer and one content of the lent room: any two that it allows for the same text, m and room are the same.
use Prim.Native.Nat.{ℕ}
use mathlib.Core.Path.{◌≡◌, refl, sym, ◌∙◌, ap}
use mathlib.Core.Bool.{cond}
use mathlib.Core.List.{List}
use lib.Dec.{eqb}
use Rattle.std.specs.Prelude.{Result, Ok, Err}
use Rattle.stored.specs.Stages as S
use Rattle.stored.specs.Stages.{no, no_with}
use Rattle.text_form.specs.Reading.{Reads}
use Rattle.text_form.proofs.OneReading.{reads_unique}
use Rattle.reader.specs.Says.{unread_of, taken_of}
use Rattle.reader.specs.declared.Unread.{Unread}
use Rattle.reader.specs.declared.Unread.TheVariants.{Locations, NotOfForm, LargeInteger, LargeLocation, Nodes, Places, Room}

-- the refusal of a number; of a number that none has, the last
back : S.Refusal → Unread
back (no c) = cond (eqb c 4) Locations (cond (eqb c 5) Nodes Places)
back (no_with c i) = cond (eqb c 50) (NotOfForm i) (cond (eqb c 51) (LargeInteger i) (cond (eqb c 52) (LargeLocation i) (Room i)))

back_again : (r : Unread) → back (unread_of r) ≡ r
unfolding back
back_again Locations = refl
back_again (NotOfForm i) = refl
back_again (LargeInteger i) = refl
back_again (LargeLocation i) = refl
back_again Nodes = refl
back_again Places = refl
back_again (Room n) = refl

pub unread_unique : {r r' : Unread} → unread_of r ≡ unread_of r' → r ≡ r'
unread_unique {r} {r'} e = sym (back_again r) ∙ ap back e ∙ back_again r'

taken_unique : (r r' : Result ℕ Unread) → taken_of r ≡ taken_of r' → r ≡ r'
taken_unique (Err r) (Err r') e = let q : unread_of r ≡ unread_of r' = cc in ap Err (unread_unique q)
taken_unique (Err r) (Ok n) e = cc
taken_unique (Ok n) (Err r) e = cc
taken_unique (Ok n) (Ok n') e = let q : n ≡ n' = cc in ap Ok q

pub one_reading : {m : ℕ} {t room room₁ room₂ : List ℕ} {r r' : Result ℕ Unread}
    → Reads m t room (taken_of r) room₁ → Reads m t room (taken_of r') room₂ → (r ≡ r') × (room₁ ≡ room₂)
one_reading {r = r} {r' = r'} x x' = let (q, w) = reads_unique x x' in (taken_unique r r' q, w)
