-- The outcome, and the counts behind it.
use Rattle.std.proofs.Common.{arith}
use Rattle.machine.specs.State.{outcome_of}
use Rattle.node_text.proofs.PutLaws.{puts_more}
use Rattle.trace_lines.proofs.LineParts.{last_parts}
use Rattle.trace_lines.proofs.put_last.Goals as goal

pub returns : goal.returns
returns c = (
  rw (last_parts (outcome_of c.args.ending) c.args.steps c.args.loops) (puts_more c.put_outcome.ensures.0 c.put_counts.ensures.0),
  omega (arith, c.put_outcome.ensures.1, c.put_counts.ensures.1),
)
