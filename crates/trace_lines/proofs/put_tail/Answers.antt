-- The bar, the values, and the end of the line.
use Rattle.std.proofs.Common.{arith}
use Rattle.node_text.proofs.PutLaws.{puts_more}
use Rattle.trace_lines.proofs.put_tail.Goals as goal

pub returns : goal.returns
returns c = (
  puts_more (puts_more c.text.ensures c.put_values.ensures.0) c.byte.ensures,
  omega (arith, c.put_values.ensures.1, c.requires.0),
)
