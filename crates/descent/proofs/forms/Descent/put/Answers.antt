-- Eight bytes behind the nodes that stand there.
use Rattle.std.proofs.Common.{refl, ◌∙◌}
use Rattle.descent.proofs.Trees.{put_is}
use Rattle.descent.proofs.forms.Descent.put.Goals as goal

pub returns : goal.returns
returns c = put_is c.args.self.now c.if-self-n.false (c.copy_from_slice.ensures.after ∙ c.node_bytes.ensures) refl refl refl refl refl
