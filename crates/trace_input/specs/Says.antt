-- What `trace` makes of an input: the first refusal, or that there is none, and then the input with its routine.
use Rattle.std.specs.Prelude.{ℕ, ◌≤◌, ◌≡◌, List, length, take, Result, Ok, Err}
use Rattle.stored.specs.Stages.{First}
use Rattle.stored.specs.Refusals.{routine, tracing}
use Rattle.routine.specs.Says.{refusal_of}
use Rattle.routine.specs.declared.Refusal.{Refusal}
use Rattle.trace_input.specs.Admitted.{Admitted}
use Rattle.trace_input.specs.declared.Taken.{Taken}

-- the routine is the first r bytes
abbrev pub RoutineEnd : List ℕ → ℕ → Type 0
RoutineEnd input r = (take r input ≡ routine input) × (r ≤ length input) × (r ≡ length (routine input))

abbrev pub TakenSays : List ℕ → Result Taken Refusal → Type 0
TakenSays input (Err r) = First (tracing input) (refusal_of r)
TakenSays input (Ok t) = Admitted input × (t ≡ input)
