-- The first mark is found, or there is none up to the text's end.
use Rattle.std.proofs.Common.{arith}
use Rattle.text_limits.proofs.Passing.{on, found, nowhere}
use Rattle.text_limits.proofs.first_large.Goals as goal

pub returns-then-large_at : goal.returns-then-large_at
returns-then-large_at c =
    found _ _ c.loop-i.i c.loop-i.p c.loop-i.invariant c.loop-i-test.true c.large_at.ensures c.if-large_at.true

pub loop-i-preserved : goal.loop-i-preserved
loop-i-preserved c = on _ _ c.loop-i.i c.loop-i.p c.loop-i.invariant (omega arith) c.large_at.ensures c.if-large_at.false

pub returns : goal.returns
returns c = nowhere _ _ c.loop-i.i c.loop-i.p c.loop-i.invariant c.loop-i-test.false
