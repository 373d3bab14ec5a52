-- The text of the root, put at the buffer's start, is what is shown.
use Rattle.std.proofs.Common.{rules}
use Rattle.writer.proofs.Writing.{put_shown}
use Rattle.writer.proofs.put.Goals as goal

pub returns : goal.returns
returns c = put_shown c.root.result c.root.ensures.opened c.root.ensures.is c.requires (let h = c.put_tree.ensures.put in search rules)
