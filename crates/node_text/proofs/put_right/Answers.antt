-- The sign, the node, and the bracket.
use Rattle.node_text.proofs.PutLaws.{puts_more}
use Rattle.node_text.proofs.put_right.Goals as goal

pub returns : goal.returns
returns c = puts_more (puts_more c.put_sign.ensures c.put_tree.ensures) c.byte.ensures
