-- The answer of the text, in 01's numbers and values.
use Rattle.std.specs.Prelude.{Result, Ok, Err}
use Rattle.stored.specs.Answers as S
use Rattle.routine.specs.Says.{refusal_of}
use Rattle.routine.specs.declared.Refusal.{Refusal}
use Rattle.text_after.specs.declared.Written.{Written}

abbrev pub wrote_of : Result Written Refusal → S.Wrote
wrote_of (Err r) = S.Wrote.refuses (refusal_of r)
wrote_of (Ok t) = S.Wrote.wrote t.length t.steps
