-- What the admission of a row says, for each case of its answer.
use Rattle.std.specs.Prelude.{ℕ, ◌+◌, ◌*◌, ◌≡◌, Bool, true, false, List, [], Result, Ok, Err, eqb, leb}
use Rattle.stored.specs.Stages.{Stage, Passes, First}
use Rattle.stored.specs.Refusals.{admission, lent_store, lent_input}
use Rattle.routine.specs.Open.{Opened}
use Rattle.routine.specs.Says.{refusal_of}
use Rattle.routine.specs.declared.Refusal as Code
use Rattle.routine.specs.declared.Refusal.TheVariants as c
use Rattle.checker.specs.declared.admission.Lent.{Lent}
use Rattle.checker.specs.declared.admission.Lent.TheVariants.{Nothing, Store, Input}
use Rattle.checker.specs.declared.admission.Row.{Row}
use Rattle.checker.specs.Says.{HasType, TallySays}

-- the stages of what is lent
abbrev pub lent_of : List ℕ → Lent → List Stage
lent_of b Nothing = []
lent_of b (Store entries) = lent_store b entries
lent_of b (Input after) = lent_input b after

abbrev pub suffices_of : Lent → ℕ → Bool
suffices_of Nothing m = true
suffices_of (Store entries) m = leb m entries
suffices_of (Input after) m = eqb after (4 + 4 * m)

abbrev pub lacking_of : Lent → Code.Refusal
lacking_of Nothing = c.Short
lacking_of (Store entries) = c.Store
lacking_of (Input after) = c.Input

-- whether what is lent does for m locations
abbrev pub LentSays : Lent → ℕ → Result (Unit {0}) Code.Refusal → Type 0
LentSays lent m (Ok u) = suffices_of lent m ≡ true
LentSays lent m (Err r) = (suffices_of lent m ≡ false) × (r ≡ lacking_of lent)

pub record Admits (b : List ℕ) (lent : Lent) (a : Row) : Type 0 where
  pub passes : Passes (admission b (lent_of b lent))
  pub is_open : Opened b
  pub itself : a.program ≡ b
  pub typed : HasType b
  pub tells : TallySays b a.told

abbrev pub AdmissionSays : List ℕ → Lent → Result Row Code.Refusal → Type 0
AdmissionSays b lent (Err r) = First (admission b (lent_of b lent)) (refusal_of r)
AdmissionSays b lent (Ok a) = Admits b lent a
