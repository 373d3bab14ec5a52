-- What is counted and the digits of x are one more than the digits of n; the measure is x.
use Rattle.std.proofs.Common.{length, ◌+◌, ◌≡◌}
use Rattle.l1.specs.Text.{decimal}
use Rattle.node_text.proofs.width.Given as goal

abbrev pub invariant-loop-x : goal.invariant-loop-x
invariant-loop-x l = l.w + length (decimal l.x) ≡ 1 + length (decimal l.n)

abbrev pub decreases-loop-x : goal.decreases-loop-x
decreases-loop-x l = l.x
