-- At the loop's head the innermost forms that are open before the bytes seen, as many as are counted, are closed behind them.
use Rattle.std.proofs.Common.{◌+◌, ◌≤◌, length}
use Rattle.form.proofs.Tables.{Counted}
use Rattle.form.proofs.outer.Given as goal

abbrev pub invariant-loop-i : goal.invariant-loop-i
invariant-loop-i l = Counted l.before l.i l.closed × (l.closed + l.i ≤ length l.before)
