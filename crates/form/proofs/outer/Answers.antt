-- One byte further back: a closing bracket, the open bracket that was looked for, another open bracket, or no bracket.
use Rattle.std.proofs.Common.{arith}
use Rattle.form.proofs.Tables as table
use Rattle.form.proofs.outer.Goals as goal

pub loop-i-preserved-in-41 : goal.loop-i-preserved-in-41
loop-i-preserved-in-41 c = (table.counted_close c.loop-i.invariant.0 c.loop-i-test.true c.in-41.is, omega arith)

pub returns-in-40 : goal.returns-in-40
returns-in-40 c = table.counted_found c.loop-i.invariant.0 c.loop-i-test.true c.in-40.is c.if-closed-eq0.true

pub loop-i-preserved-in-40-2 : goal.loop-i-preserved-in-40-2
loop-i-preserved-in-40-2 c = (table.counted_open c.loop-i.invariant.0 c.loop-i-test.true c.in-40.is c.if-closed-eq0.false, omega arith)

pub loop-i-preserved : goal.loop-i-preserved
loop-i-preserved c = (table.counted_other c.loop-i.invariant.0 c.loop-i-test.true (λ e. omega arith) (λ e. omega arith), omega arith)

pub returns : goal.returns
returns c = table.counted_none c.loop-i.invariant.0 c.loop-i-test.false
