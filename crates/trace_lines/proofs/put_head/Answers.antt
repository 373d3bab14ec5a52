-- The number of steps, the rule, and a space behind each.
use Rattle.std.proofs.Common.{arith}
use Rattle.node_text.proofs.PutLaws.{puts_more}
use Rattle.node_text.proofs.NumberLengths.{few_digits}
use Rattle.trace_lines.proofs.put_head.Goals as goal

pub returns : goal.returns
returns c = (
  puts_more (puts_more (puts_more c.decimal.ensures c.byte.ensures) c.put_rule.ensures.0) c.byte-2.ensures,
  omega (arith, c.put_rule.ensures.1, c.byte-2.ensures.put.next, few_digits c.args.steps c.ranges.steps.fits),
)
