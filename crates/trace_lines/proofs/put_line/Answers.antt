-- What stands before the text, the text as it is shown, and what stands behind it.
use Rattle.std.proofs.Common.{arith}
use Rattle.machine.specs.Moment.{meaning}
use Rattle.node_text.proofs.PutLaws.{puts_more}
use Rattle.trace_lines.specs.Lines.{name_of}
use Rattle.trace_lines.proofs.LineParts.{moment_parts}
use Rattle.trace_lines.proofs.put_line.Goals as goal

pub returns : goal.returns
returns c =
    let a = c.args in
    let shown = rw c.of-moment.ensures at c.put_shown.ensures in (
      rw (moment_parts a.m.steps (name_of a.m.rule) (meaning a.row.now a.pending.now a.m) a.s.now)
          (puts_more (puts_more c.put_head.ensures.0 shown.0) c.put_tail.ensures.0),
      omega (arith, c.put_tail.ensures.1, shown.1, c.put_head.ensures.1),
    )
