-- The answer of the run, in 01's numbers and values.
use Rattle.std.specs.Prelude.{Result, Ok, Err}
use Rattle.stored.specs.Answers as S
use Rattle.stored.specs.Answers.{ran}
use Rattle.routine.specs.declared.Refusal.{Refusal}
use Rattle.routine.specs.Says.{refusal_of}
use Rattle.machine.specs.State.{outcome_of}
use Rattle.runner.specs.declared.End.{End}

abbrev pub ran_of : Result End Refusal → S.Ran
ran_of (Err r) = S.Ran.refuses (refusal_of r)
ran_of (Ok e) = ran (outcome_of e.ending) e.steps e.loops
