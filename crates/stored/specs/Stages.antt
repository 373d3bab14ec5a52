-- Refusals, and the rule of their order: what can be refused is looked at in stages, one after the other, and the first stage that refuses
-- gives the refusal. An order is a list of stages, as Refusals.antt has them.
use Rattle.std.specs.Prelude.{ℕ, ◌<◌, ◌⊎◌, List, [], ◌∷◌}

infix 2 ◌when◌
infix 2 ◌at◌
-- a number, and where 01 has something in the column "also returns", that too: the node, or the length needed
pub data Refusal : Type 0 where
  no : ℕ → Refusal
  no_with : ℕ → ℕ → Refusal

abbrev pub number : Refusal → ℕ
number (no c) = c
number (no_with c i) = c

-- a stage is told by the refusals that it gives
abbrev pub Stage : Type 1
Stage = Refusal → Type 0

-- `c when P`: the number c is given when P
pub data ◌when◌ (c : ℕ) (P : Type 0) : Refusal → Type 0 where
  given : P → (c when P) (no c)

-- `c at P`: the number c is given with i when P i
pub data ◌at◌ (c : ℕ) (P : ℕ → Type 0) : Refusal → Type 0 where
  given_at : {i : ℕ} → P i → (c at P) (no_with c i)

-- one stage with several numbers: c is given with i when P c i
pub data OneOf (P : ℕ → ℕ → Type 0) : Refusal → Type 0 where
  given_one : {c i : ℕ} → P c i → OneOf P (no_with c i)

abbrev pub Silent : Stage → Type 0
Silent A = (r : Refusal) → ¬ A r

-- `Passes stages`: no stage refuses
abbrev pub AllSilent : List Stage → Type 0
AllSilent [] = Unit
AllSilent (A ∷ stages) = Silent A × AllSilent stages

pub record Passes (stages : List Stage) : Type 0 where
  pub all_silent : AllSilent stages

-- `First stages r`: the first stage that refuses gives r
abbrev pub FirstOf : List Stage → Refusal → Type 0
FirstOf [] r = ⊥
FirstOf (A ∷ stages) r = A r ⊎ (Silent A × FirstOf stages r)

pub record First (stages : List Stage) (r : Refusal) : Type 0 where
  pub of : FirstOf stages r

-- some stage gives r, whatever those before it say
abbrev pub Applies : List Stage → Refusal → Type 0
Applies [] r = ⊥
Applies (A ∷ stages) r = A r ⊎ Applies stages r

-- "The lowest number that applies is given": of 01's own lists this is a theorem (proofs/LowestFirst.antt)
pub record Lowest (stages : List Stage) (r : Refusal) : Type 0 where
  pub does : Applies stages r
  pub no_lower : (q : Refusal) → number q < number r → ¬ Applies stages q
