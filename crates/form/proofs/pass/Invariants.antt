-- At the loop's head the bytes before the point fit, and the table has the innermost levels. Each turn goes past a byte.
use Rattle.std.proofs.Common.{length, ◌-◌}
use Rattle.form.specs.Levels.{levels}
use Rattle.form.specs.Places.{Stands, offset}
use Rattle.form.specs.Table.{Kept}
use Rattle.form.proofs.pass.Given as goal

abbrev pub invariant-loop-next : goal.invariant-loop-next
invariant-loop-next g l = Stands l.t l.point × Kept (levels l.t (offset l.point)) l.table.levels l.table.height

abbrev pub decreases-loop-next : goal.decreases-loop-next
decreases-loop-next g l = length l.t - offset l.point
