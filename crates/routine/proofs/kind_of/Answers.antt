-- `routine::kind_of` meets its contract: the kinds are the forms' own numbers, in order.
use Rattle.routine.proofs.KindTags.{tag_is_kind, kind_below}
use Rattle.routine.proofs.kind_of.Goals as goal

pub returns : goal.returns
returns c = (tag_is_kind c.args.f, rw tag_is_kind (kind_below c.args.f))
