-- The values below the index are written, none in more than 22 bytes.
use Rattle.std.proofs.Common.{take, ◌+◌, ◌*◌, ◌≤◌}
use Rattle.stored.specs.Trace.{values_text}
use Rattle.node_text.specs.Pages.{Puts}
use Rattle.trace_lines.proofs.put_values.Given as goal

abbrev pub invariant-loop-n : goal.invariant-loop-n
invariant-loop-n l = Puts l.initial.page (values_text (take l.n-index l.s)) l.page × (l.page.at ≤ l.initial.page.at + 22 * l.n-index)
