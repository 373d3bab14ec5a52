-- Every row is answered, whatever is lent with it: refused, or admitted with a type. So the check answers every list of bytes, and the run every list of
-- bytes with every store and every fuel; with `checks_unique` and `runs_unique` there is exactly one answer.
use Prim.Native.Nat.{ℕ}
use mathlib.Core.Path.{◌≡◌, refl}
use mathlib.Core.Logic.{◌⊎◌, inl, inr, ⊎_elim}
use mathlib.Core.Bool.{Bool, true, false}
use mathlib.Core.List.{List}
use lib.ListN.{length}
use borrow.Author.Tests.{leb-true}
use Rattle.l1.specs.Syntax.{Ty}
use Rattle.l1.specs.Store as L
use Rattle.l1.specs.Typing.{◌⊢◌∶◌}
use Rattle.l1.specs.Refused.{Verdict, Judged, has_type, has_none}
use Rattle.l1.proofs.Verdict.{verdict_judged}
use Rattle.stored.specs.Stages.{Refusal, Passes, First}
use Rattle.stored.specs.Refusals.{locations, env, admission}
use Rattle.stored.specs.Answers as S
use Rattle.stored.specs.Answers.{Opening, open_refuses, open_opens}
use Rattle.stored.specs.Answers.{Checked, Checks, check_refuses, check_tells, Ran, ran, Runs, run_refuses}
use Rattle.stored.proofs.Admission.{opening_refused, type_refused, lent_refused, admitted}
use Rattle.stored.proofs.RunAnswers.{run_exists}
use Rattle.routine.specs.Open.{root_of, sizes_of, Opened, Runnable}
use Rattle.routine.proofs.Opening.{opening_opens}
use Rattle.opener.proofs.EveryOpening.{every_opening}
use Rattle.checker.specs.declared.admission.Lent.{Lent}
use Rattle.checker.specs.declared.admission.Lent.TheVariants.{Nothing, Store}
use Rattle.checker.specs.Admits.{lent_of, suffices_of}
use Rattle.checker.proofs.Admitting.{lent_passes, lent_lacks}

module _ (b : List ℕ) (lent : Lent) where
  -- nothing is refused: the routine may be run, and what is lent suffices
  abbrev pub Admitted : Type 0
  Admitted = Passes (admission b (lent_of b lent)) × Runnable b × (suffices_of lent (locations b) ≡ true)

  abbrev pub Answered : Type 0
  Answered = ((r : Refusal) × First (admission b (lent_of b lent)) r) ⊎ Admitted

  module _ (o : Opened b) where
    by_lent : {T : Ty} → env b ⊢ root_of b ∶ T → (t : Bool) → suffices_of lent (locations b) ≡ t → Answered
    by_lent {T} x true e =
        inr (
          admitted o.opens o.holds (lent_of b lent) x (lent_passes b refl lent e),
          record { opens = o.opens; holds = o.holds; type = T; typed = x },
          e,
        )
    by_lent x false e = inl (_, lent_refused o.opens o.holds (lent_of b lent) x (lent_lacks b refl lent e))

    by_type : {v : Verdict} → Judged (env b) (root_of b) v → Answered
    by_type (has_type x) = by_lent x (suffices_of lent (locations b)) refl
    by_type (has_none r) = inl (_, type_refused o.opens o.holds (lent_of b lent) r)

  by_opening : {a : S.Opened} → Opening b a → Answered
  by_opening (open_refuses f) = inl (_, opening_refused {b = b} (lent_of b lent) (open_refuses f))
  by_opening (open_opens ok h) =
      by_type (opening_opens {z = sizes_of b} (open_opens ok h)) (verdict_judged (env b) (root_of b))

  pub every_row : Answered
  every_row = by_opening (every_opening b).1

pub every_check : (b : List ℕ) → (a : Checked) × Checks b a
every_check b = ⊎_elim (λ (r, f). (_, check_refuses f)) (λ (p, ok, e). (_, check_tells p ok.holds ok.typed)) (every_row b Nothing)

pub every_run : (b : List ℕ) (s : L.Store) (fuel : ℕ) → (a : Ran) × (s' : L.Store) × Runs b s fuel a s'
every_run b s fuel = ⊎_elim (λ (r, f). (_, _, run_refuses f)) runs (every_row b (Store (length s)))
  where
    runs : Admitted b (Store (length s)) → (a : Ran) × (s' : L.Store) × Runs b s fuel a s'
    runs (p, ok, e) =
        let (o, T, K, s', r) = run_exists fuel ok.opens ok.holds ok.typed (leb-true (locations b) (length s) e) in
        (ran o T K, s', r)
