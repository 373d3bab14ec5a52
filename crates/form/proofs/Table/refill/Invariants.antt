-- At the loop's head the entries from j on are the levels of the brackets from behind `rest` on.
use Rattle.std.proofs.Common.{◌<◌, ◌≤◌, length}
use Rattle.form.specs.Levels.{levels_behind}
use Rattle.form.proofs.Tables.{Filling}
use Rattle.form.proofs.Table.refill.Given as goal

abbrev pub invariant-loop-j : goal.invariant-loop-j
invariant-loop-j g l = Filling (levels_behind l.before) l.self.levels l.self.height l.j l.rest × (2 ≤ length l.self.levels) × (0 < l.self.height)
