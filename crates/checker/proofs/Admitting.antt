-- What the admission answers of a routine that was opened: refused on type, refused for what is lent, or admitted.
use Prim.Native.Nat.{ℕ, ◌+◌, ◌*◌, ◌≤◌, ◌<◌}
use native.Mathlib.Omega.{arith}
use mathlib.Core.Path.{◌≡◌, refl}
use mathlib.Core.Bool.{true, false}
use mathlib.Core.List.{List}
use borrow.Author.Tests.{leb-true, leb-false, eqb-true, eqb-false}
use Rattle.std.specs.Prelude.{Result, Ok, Err}
use Rattle.stored.specs.Stages.{given, Passes, First}
use Rattle.stored.specs.Answers.{Checks, check_refuses, check_tells}
use Rattle.stored.specs.Refusals.{locations, admission, lent_store, lent_input}
use Rattle.stored.proofs.Stages.{when_silent, silent_when, passes_nothing, passes_more, first_here}
use Rattle.stored.proofs.Opens.{not_unequal}
use Rattle.stored.proofs.Admission as stages
use Rattle.routine.specs.Open.{Opened, Runnable}
use Rattle.routine.specs.Says.{refusal_of}
use Rattle.routine.specs.declared.Refusal.{Refusal}
use Rattle.checker.specs.declared.Told.{Told}
use Rattle.checker.specs.declared.admission.Lent.{Lent}
use Rattle.checker.specs.declared.admission.Lent.TheVariants.{Nothing, Store, Input}
use Rattle.checker.specs.declared.admission.Row.{Row}
use Rattle.checker.specs.Says.{Faulty, TypedSays, checked_of}
use Rattle.checker.specs.Admits.{lent_of, suffices_of, lacking_of, LentSays, Admits}

module _ (b : List ℕ) {m : ℕ} (declared : m ≡ locations b) where
  pub lent_passes : (lent : Lent) → suffices_of lent m ≡ true → Passes (lent_of b lent)
  lent_passes Nothing e = passes_nothing
  lent_passes (Store entries) e = passes_more (when_silent (λ l. omega (arith, leb-true m entries e))) passes_nothing
  lent_passes (Input after) e = passes_more (when_silent (λ n. n (omega (arith, eqb-true after (4 + 4 * m) e)))) passes_nothing

  pub lent_lacks : (lent : Lent) → suffices_of lent m ≡ false → First (lent_of b lent) (refusal_of (lacking_of lent))
  lent_lacks Nothing e = absurd (let z : ◌≡◌ {A = ℕ} 0 1 = cc in omega arith)
  lent_lacks (Store entries) e = first_here (given (omega (arith, leb-false m entries e)))
  lent_lacks (Input after) e = first_here (given (λ q. eqb-false after (4 + 4 * m) e (omega arith)))

module _ {b : List ℕ} (o : Opened b) (lent : Lent) where
  pub faulty : (r : Refusal) → Faulty b r → First (admission b (lent_of b lent)) (refusal_of r)
  faulty r (c, i, f, q) = rw q (stages.type_refused o.opens o.holds (lent_of b lent) f)

  module _ {t : Told} (y : TypedSays b (Ok t)) where
    pub lacks : (m : ℕ) (r : Refusal) → m ≡ locations b → LentSays lent m (Err r) → First (admission b (lent_of b lent)) (refusal_of r)
    lacks m r l (e, q) = rw q (stages.lent_refused o.opens o.holds (lent_of b lent) y.0 (lent_lacks b l lent e))

    pub admits : (m : ℕ) → m ≡ locations b → suffices_of lent m ≡ true → Admits b lent (record { program = b; told = t })
    admits m l e = record {
      passes = stages.admitted o.opens o.holds (lent_of b lent) y.0 (lent_passes b l lent e);
      is_open = o;
      itself = refl;
      typed = y.0;
      tells = y.1;
    }

-- what the check answers of a routine that was opened, by what it says of its types
pub typed_checks : {b : List ℕ} → Opened b → (r : Result Told Refusal) → TypedSays b r → Checks b (checked_of r)
typed_checks {b} o (Err r) f = check_refuses (faulty o Nothing r f)
typed_checks {b} o (Ok t) y =
    let a = admits o Nothing y (locations b) refl refl in
    let q = y.1 in
    rw (q.its_type, q.its_working, q.its_reads, q.its_writes) (check_tells a.passes o.holds y.0)

pub may_run : {b : List ℕ} {lent : Lent} {a : Row} → Admits b lent a → Runnable b
may_run x = record { opens = x.is_open.opens; holds = x.is_open.holds; type = _; typed = x.typed }

pub store_covers : {b : List ℕ} {entries : ℕ} {a : Row} → Admits b (Store entries) a → locations b ≤ entries
store_covers {b} {entries} x =
    let lent = stages.admitted_lent {b = b} {lent = lent_store b entries} x.passes in
    let short : ¬ (entries < locations b) = silent_when lent.all_silent.0 in
    omega arith

pub input_whole : {b : List ℕ} {after : ℕ} {a : Row} → Admits b (Input after) a → after ≡ 4 + 4 * locations b
input_whole {b} {after} x =
    let lent = stages.admitted_lent {b = b} {lent = lent_input b after} x.passes in
    not_unequal after (4 + 4 * locations b) (silent_when lent.all_silent.0)
