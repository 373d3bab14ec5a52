-- What the loop of `machine::go_on` keeps stands in `Loops`. The measure is the steps that are left, and then the search.
use Rattle.machine.proofs.Turns.{left}
use Rattle.machine.proofs.Loops.{Kept}
use Rattle.machine.proofs.run.go_on.Given as goal

abbrev pub invariant-loop-machine : goal.invariant-loop-machine
invariant-loop-machine l = Kept l.row l.limit l.fn.s l.fn.pending l.fn.machine l.s l.pending l.machine

abbrev pub decreases-loop-machine : goal.decreases-loop-machine
decreases-loop-machine l = left l.row l.limit l.pending l.machine
