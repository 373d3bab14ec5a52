-- One digit more is counted, and x has one digit less.
use Rattle.std.proofs.Common.{arith}
use Rattle.node_text.proofs.NumberLengths.{one_digit, more_digits, few_digits}
use Rattle.node_text.proofs.width.Goals as goal

pub overflow_add-w : goal.overflow_add-w
overflow_add-w c = omega (arith, few_digits c.args.n (omega arith))

pub loop-x-preserved : goal.loop-x-preserved
loop-x-preserved c = omega (arith, more_digits c.loop-x.x (omega arith))

pub returns : goal.returns
returns c = omega (arith, one_digit c.loop-x.x (omega arith), few_digits c.args.n (omega arith))
