-- The end is the length of the routine.
use Rattle.std.proofs.Common.{ℕ, ◌≡◌, List, length, arith}
use Rattle.stored.specs.Refusals.{routine}
use Rattle.trace_input.specs.Says.{RoutineEnd}
use Rattle.trace_input.proofs.InputParts.{routine_first, routine_length}
use Rattle.trace_input.proofs.routine_end.Goals as goal

ends : (input : List ℕ) (r : ℕ) → r ≡ length (routine input) → RoutineEnd input r
ends input r e = (rw e (routine_first input), omega (arith, routine_length input), e)

pub returns-then-end-lt2 : goal.returns-then-end-lt2
returns-then-end-lt2 c = ends _ _ (omega (arith, routine_length c.args.input.now))

pub returns : goal.returns
returns c = ends _ _ (omega (arith, routine_length c.args.input.now))
