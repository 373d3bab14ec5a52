-- Two words, each with its number, and the end of the line.
use Rattle.std.proofs.Common.{arith}
use Rattle.node_text.proofs.PutLaws.{puts_more}
use Rattle.node_text.proofs.NumberLengths.{few_digits}
use Rattle.trace_lines.proofs.put_counts.Goals as goal

pub returns : goal.returns
returns c = (
  puts_more (puts_more (puts_more (puts_more c.text.ensures c.decimal.ensures) c.text-2.ensures) c.decimal-2.ensures) c.byte.ensures,
  omega (arith, c.byte.ensures.put.next, few_digits c.args.steps c.ranges.steps.fits, few_digits c.args.loops c.ranges.loops.fits),
)
