-- The admission of a row, whatever is lent with it: what opening refuses is refused; what opens and has no type is refused on type; and of what has a type
-- only what is lent is left to refuse.
use Prim.Native.Nat.{ℕ, ◌<◌}
use native.Mathlib.Omega.{arith}
use mathlib.Core.Path.{◌≡◌, ap₂}
use mathlib.Core.List.{List, ◌++◌}
use Rattle.l1.specs.Syntax.{Expr, Ty}
use Rattle.l1.specs.Typing.{◌⊢◌∶◌}
use Rattle.l1.specs.Refused.{Refused, Verdict, Judged, has_type, has_none}
use Rattle.l1.proofs.Verdict.{typed_not_refused, refused_unique, verdict_judged}
use Rattle.stored.specs.Stages.{Refusal, no_with, Stage, OneOf, given_one, Silent, Passes, First}
use Rattle.stored.specs.Refusals.{env, Holds, RootHas, Breaks, opening, typing, admission}
use Rattle.stored.specs.Answers.{Opens, refuses, Opening, open_refuses}
use Rattle.stored.proofs.Reader.{holds_unique}
use Rattle.stored.proofs.Stages.{Single, when_single, at_single, AllSingle, passes_more, passes_nothing, first_here}
use Rattle.stored.proofs.Stages.{both_pass, former_passes, latter_passes, first_former, first_latter}

-- ---- each stage gives one refusal at most

module _ (b : List ℕ) where
  one_breaks : (i j : ℕ) → Breaks b i → Breaks b j → i ≡ j
  one_breaks i j x y =
      let not_below : ¬ (i < j) = λ l. let (e, t) = y.lower_stand i l in x.none_stands e t in
      let not_above : ¬ (j < i) = λ l. let (e, t) = x.lower_stand j l in y.none_stands e t in
      omega arith

  types_single : Single (OneOf (λ c i. RootHas b (λ e. Refused (env b) e c i)))
  types_single = record { same = λ r r'. same }
    where
      same : {r r' : Refusal} → OneOf (λ c i. RootHas b (λ e. Refused (env b) e c i)) r
          → OneOf (λ c i. RootHas b (λ e. Refused (env b) e c i)) r' → r ≡ r'
      same (given_one (e, h, x)) (given_one (e', h', x')) =
          let (c, i) = refused_unique (rw (holds_unique b h h') at x) x' in ap₂ no_with c i

  pub opening_single : AllSingle (opening b)
  opening_single =
      (when_single, (when_single, (when_single, (when_single, (when_single, (when_single, (at_single one_breaks, (when_single, (when_single, tt)))))))))

  pub admission_single : (lent : List Stage) → AllSingle lent → AllSingle (admission b lent)
  admission_single lent one =
      (when_single, (when_single, (when_single, (when_single, (when_single, (when_single, (at_single one_breaks, (when_single, (when_single, (types_single, one))))))))))

-- ---- which refusal it is

module _ {b : List ℕ} where
  -- where a row with something lent is not refused, it opens, its tree has a type, and what is lent passes
  pub admitted_opens : {lent : List Stage} → Passes (admission b lent) → Opens b
  admitted_opens {lent} p = record { passes = former_passes (opening b) (typing b ++ lent) p }

  pub admitted_lent : {lent : List Stage} → Passes (admission b lent) → Passes lent
  admitted_lent {lent} p = latter_passes (typing b) lent (latter_passes (opening b) (typing b ++ lent) p)

  pub admitted_typed : {lent : List Stage} → Passes (admission b lent) → {e : Expr} → Holds b e → (T : Ty) × (env b ⊢ e ∶ T)
  admitted_typed {lent} p {e} h = by_verdict (verdict_judged (env b) e)
    where
      by_verdict : {v : Verdict} → Judged (env b) e v → (T : Ty) × (env b ⊢ e ∶ T)
      by_verdict (has_type {T} t) = (T, t)
      by_verdict (has_none {c} {i} r) =
          let (none, more) = (latter_passes (opening b) (typing b ++ lent) p).all_silent in absurd (none (no_with c i) (given_one (e, h, r)))

  pub opening_refused : (lent : List Stage) {r : Refusal} → Opening b (refuses r) → First (admission b lent) r
  opening_refused lent (open_refuses f) = first_former (opening b) (typing b ++ lent) f

  module _ (ok : Opens b) {e : Expr} (h : Holds b e) (lent : List Stage) where
    pub type_refused : {c i : ℕ} → Refused (env b) e c i → First (admission b lent) (no_with c i)
    type_refused r = first_latter (opening b) (typing b ++ lent) ok.passes (first_here (given_one (e, h, r)))

    module _ {T : Ty} (t : env b ⊢ e ∶ T) where
      types_pass : Passes (opening b ++ typing b)
      types_pass = both_pass (opening b) (typing b) ok.passes (passes_more none passes_nothing)
        where
          none : Silent (OneOf (λ c i. RootHas b (λ e. Refused (env b) e c i)))
          none _ (given_one (e', h', r)) = typed_not_refused t (rw (holds_unique b h' h) at r)

      pub lent_refused : {r : Refusal} → First lent r → First (admission b lent) r
      lent_refused f = first_latter (opening b ++ typing b) lent types_pass f

      pub admitted : Passes lent → Passes (admission b lent)
      admitted p = both_pass (opening b ++ typing b) lent types_pass p
