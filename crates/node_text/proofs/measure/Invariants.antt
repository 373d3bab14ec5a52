-- The table holds the length of the text of each node passed, and behind them what it held.
use Rattle.node_text.specs.Lengths.{Filled}
use Rattle.node_text.proofs.measure.Given as goal

abbrev pub invariant-loop-i : goal.invariant-loop-i
invariant-loop-i l = Filled l.row l.i l.initial.lengths l.lengths
