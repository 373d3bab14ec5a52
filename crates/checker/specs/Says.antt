-- What the type check and the check say of the bytes, for each case of their answers.
use Rattle.std.specs.Prelude.{ℕ, ◌<◌, ◌≡◌, List, Option, Some, None, Result, Ok, Err}
use Rattle.l1.specs.Typing.{◌⊢◌∶◌}
use Rattle.l1.specs.Measures as M
use Rattle.l1.specs.Sets as W
use Rattle.l1.specs.Sets.{word}
use Rattle.l1.specs.Refused.{Refused}
use Rattle.l1.specs.Judge.{rule_type}
use Rattle.stored.specs.Stages.{no_with}
use Rattle.stored.specs.Refusals.{env}
use Rattle.stored.specs.Answers as S
use Rattle.stored.specs.Answers.{tells}
use Rattle.routine.specs.Open.{root_of}
use Rattle.routine.specs.Says.{refusal_of}
use Rattle.routine.specs.declared.Refusal.{Refusal}
use Rattle.checker.specs.declared.Told.{Told}
use Rattle.checker.specs.Rules.{type_of}

-- why the own rule of node i fails, by c, the lowest number by which it does; 0 where it holds
abbrev pub FaultSays : ℕ → ℕ → Option Refusal → Type 0
FaultSays c i None = c ≡ 0
FaultSays c i (Some r) = (0 < c) × (refusal_of r ≡ no_with c i)

-- the routine has a type
abbrev pub HasType : List ℕ → Type 0
HasType b = env b ⊢ root_of b ∶ rule_type (root_of b)

pub record TallySays (b : List ℕ) (t : Told) : Type 0 where
  pub its_type : type_of t.ty ≡ rule_type (root_of b)
  pub its_working : t.working ≡ M.working (root_of b)
  pub its_reads : t.reads ≡ word (W.reads (root_of b))
  pub its_writes : t.writes ≡ word (W.writes (root_of b))

-- a refusal on type is that of a node, by the number
abbrev pub Faulty : List ℕ → Refusal → Type 0
Faulty b r = (c : ℕ) × (i : ℕ) × Refused (env b) (root_of b) c i × (refusal_of r ≡ no_with c i)

abbrev pub TypedSays : List ℕ → Result Told Refusal → Type 0
TypedSays b (Err r) = Faulty b r
TypedSays b (Ok t) = HasType b × TallySays b t

-- the answer of the check, in 01's numbers and values
abbrev pub checked_of : Result Told Refusal → S.Checked
checked_of (Err r) = S.Checked.refuses (refusal_of r)
checked_of (Ok t) = tells (type_of t.ty) t.working t.reads t.writes
