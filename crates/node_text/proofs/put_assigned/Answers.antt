-- The bracket, the location, and the sign.
use Rattle.node_text.proofs.PutLaws.{puts_more}
use Rattle.node_text.proofs.put_assigned.Goals as goal

pub returns : goal.returns
returns c = puts_more (puts_more c.text.ensures c.decimal.ensures) c.text-2.ensures
