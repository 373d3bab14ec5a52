-- The laws of orders: where each stage gives one refusal at most, one is first at most; nothing is first where all stages pass; of two lists in a
-- row the first of the former is first, and that of the latter where the former passes.
use Prim.Native.Nat.{ℕ}
use mathlib.Core.Path.{◌≡◌, refl, ap}
use mathlib.Core.Logic.{inl, inr}
use mathlib.Core.List.{List, [], ◌∷◌, ◌++◌}
use Rattle.stored.specs.Stages.{Refusal, no, no_with, Stage, ◌when◌, given, ◌at◌, given_at}
use Rattle.stored.specs.Stages.{Silent, AllSilent, Passes, FirstOf, First}

-- ---- one stage

pub when_silent : {c : ℕ} {P : Type 0} → ¬ P → Silent (c when P)
when_silent n _ (given p) = n p

pub silent_when : {c : ℕ} {P : Type 0} → Silent (c when P) → ¬ P
silent_when {c} q p = q (no c) (given p)

pub at_silent : {c : ℕ} {P : ℕ → Type 0} → ((i : ℕ) → ¬ P i) → Silent (c at P)
at_silent n _ (given_at {i = i} p) = n i p

-- two refusals of a stage are the same
pub record Single (A : Stage) : Type 0 where
  pub same : (r r' : Refusal) → A r → A r' → r ≡ r'

pub when_single : {c : ℕ} {P : Type 0} → Single (c when P)
when_single {c} {P} = record { same = λ r r'. same }
  where
    same : {r r' : Refusal} → (c when P) r → (c when P) r' → r ≡ r'
    same (given p) (given p') = refl

pub at_single : {c : ℕ} {P : ℕ → Type 0} → ((i j : ℕ) → P i → P j → i ≡ j) → Single (c at P)
at_single {c} {P} one = record { same = λ r r'. same }
  where
    same : {r r' : Refusal} → (c at P) r → (c at P) r' → r ≡ r'
    same (given_at {i = i} p) (given_at {i = j} p') = ap (no_with c) (one i j p p')

-- ---- a list of stages

pub passes_nothing : Passes []
passes_nothing = record { all_silent = tt }

module _ {A : Stage} {stages : List Stage} where
  pub passes_more : Silent A → Passes stages → Passes (A ∷ stages)
  passes_more none p = record { all_silent = (none, p.all_silent) }

  pub first_here : {r : Refusal} → A r → First (A ∷ stages) r
  first_here a = record { of = inl a }

  pub first_later : {r : Refusal} → Silent A → First stages r → First (A ∷ stages) r
  first_later none f = record { of = inr (none, f.of) }

abbrev pub AllSingle : List Stage → Type 0
AllSingle [] = Unit
AllSingle (A ∷ stages) = Single A × AllSingle stages

pub first_unique : (stages : List Stage) {r r' : Refusal} → AllSingle stages → First stages r → First stages r' → r ≡ r'
first_unique stages {r} {r'} one f f' = go stages one f.of f'.of
  where
    go : (stages : List Stage) → AllSingle stages → FirstOf stages r → FirstOf stages r' → r ≡ r'
    go (A ∷ stages) (one, more) (inl a) (inl a') = one.same r r' a a'
    go (A ∷ stages) (one, more) (inl a) (inr (none, f)) = absurd (none r a)
    go (A ∷ stages) (one, more) (inr (none, f)) (inl a) = absurd (none r' a)
    go (A ∷ stages) (one, more) (inr (none, f)) (inr (none', f')) = go stages more f f'
    go [] _ x4 _ = elim x4 [ ]

pub passes_none : {stages : List Stage} {r : Refusal} → Passes stages → ¬ First stages r
passes_none {stages} {r} p f = go stages p.all_silent f.of
  where
    go : (stages : List Stage) → AllSilent stages → ¬ FirstOf stages r
    go (A ∷ stages) (none, more) (inl a) = none r a
    go (A ∷ stages) (none, more) (inr (none', f)) = go stages more f
    go [] _ x3 = elim x3 [ ]

-- ---- stage by stage

-- the stages before the rest are silent: what the rest gives, all give, and where the rest passes, all pass
pub record Past (stages rest : List Stage) : Type 0 where
  pub gives : (r : Refusal) → First rest r → First stages r
  pub passes : Passes rest → Passes stages

pub past_none : {stages : List Stage} → Past stages stages
past_none = record { gives = λ r f. f; passes = λ p. p }

module _ {stages rest : List Stage} {A : Stage} (past : Past stages (A ∷ rest)) where
  pub past_more : Silent A → Past stages rest
  past_more none = record { gives = λ r f. past.gives r (first_later none f); passes = λ p. past.passes (passes_more none p) }

  pub first_now : {r : Refusal} → A r → First stages r
  first_now {r} a = past.gives r (first_here a)

-- ---- two lists in a row

module _ (former latter : List Stage) where
  pub both_pass : Passes former → Passes latter → Passes (former ++ latter)
  both_pass p q = record { all_silent = go former p.all_silent }
    where
      go : (former : List Stage) → AllSilent former → AllSilent (former ++ latter)
      go [] p = q.all_silent
      go (A ∷ former) (none, p) = (none, go former p)

  pub former_passes : Passes (former ++ latter) → Passes former
  former_passes p = record { all_silent = go former p.all_silent }
    where
      go : (former : List Stage) → AllSilent (former ++ latter) → AllSilent former
      go [] p = tt
      go (A ∷ former) (none, p) = (none, go former p)

  pub latter_passes : Passes (former ++ latter) → Passes latter
  latter_passes p = record { all_silent = go former p.all_silent }
    where
      go : (former : List Stage) → AllSilent (former ++ latter) → AllSilent latter
      go [] p = p
      go (A ∷ former) (none, p) = go former p

  pub first_former : {r : Refusal} → First former r → First (former ++ latter) r
  first_former {r} f = record { of = go former f.of }
    where
      go : (former : List Stage) → FirstOf former r → FirstOf (former ++ latter) r
      go (A ∷ former) (inl a) = inl a
      go (A ∷ former) (inr (none, f)) = inr (none, go former f)
      go [] x' = elim x' [ ]

  pub first_latter : {r : Refusal} → Passes former → First latter r → First (former ++ latter) r
  first_latter {r} p f = record { of = go former p.all_silent }
    where
      go : (former : List Stage) → AllSilent former → FirstOf (former ++ latter) r
      go [] p = f.of
      go (A ∷ former) (none, p) = inr (none, go former p)
