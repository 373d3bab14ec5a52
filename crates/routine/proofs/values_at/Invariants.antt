-- The first i entries are the first i values.
use Rattle.std.proofs.Common.{length, take, ◌≡◌}
use Rattle.stored.specs.Trace.{values_from}
use Rattle.routine.proofs.values_at.Given as goal

abbrev pub invariant-loop-i : goal.invariant-loop-i
invariant-loop-i l = (length l.s ≡ length l.initial.s) × (take l.i l.s ≡ values_from l.b l.at l.i)
