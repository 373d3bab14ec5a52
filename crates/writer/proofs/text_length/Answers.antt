-- Behind the last node the sum is the length of the text.
use Rattle.std.proofs.Common.{arith, ◌∙◌}
use Rattle.writer.proofs.OwnSums.{length_all}
use Rattle.writer.proofs.text_length.Goals as goal

pub returns : goal.returns
returns c = c.loop-i.invariant.sum ∙ length_all c.loop-i.i c.nodes-i-end.ensures.opened (omega arith)
