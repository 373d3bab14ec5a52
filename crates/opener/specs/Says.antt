-- What the head, the layout and opening say of the bytes.
use Rattle.std.specs.Prelude.{ℕ, List, Result, Ok, Err}
use Rattle.stored.specs.Refusals.{locations, count}
use Rattle.stored.specs.Answers as S
use Rattle.stored.specs.Answers.{opens, Opening}
use Rattle.stored.specs.Headed.{Headed}
use Rattle.routine.specs.Says.{refusal_of}
use Rattle.routine.specs.Open.{SizesOf}
use Rattle.routine.specs.declared.Refusal.{Refusal}
use Rattle.routine.specs.declared.Sizes.{Sizes}

abbrev pub HeadSays : List ℕ → Result Sizes Refusal → Type 0
HeadSays b (Err r) = Opening b (S.Opened.refuses (refusal_of r))
HeadSays b (Ok z) = Headed b × SizesOf b z

abbrev pub LaidSays : List ℕ → Result (Unit {0}) Refusal → Type 0
LaidSays b (Err r) = Opening b (S.Opened.refuses (refusal_of r))
LaidSays b (Ok u) = Opening b (opens (locations b) (count b))

-- the answer of opening, in 01's numbers: of what opens, by its bytes
abbrev pub opened_of : Result (List ℕ) Refusal → S.Opened
opened_of (Err r) = S.Opened.refuses (refusal_of r)
opened_of (Ok b) = opens (locations b) (count b)
