-- The places from j on are closed.
use Rattle.moment_text.proofs.ClosedPlaces.{Closed}
use Rattle.moment_text.proofs.put_closes.Given as goal

abbrev pub invariant-loop-j : goal.invariant-loop-j
invariant-loop-j l = Closed l.row l.pending.frames l.pending.height l.initial.page l.page l.j
