-- The table's digit for each form.
use Rattle.opener.proofs.Arities.{inside}
use Rattle.opener.proofs.is_inside.Goals as goal

pub returns : goal.returns
returns c = rw c.digit_of.ensures.0 (inside _)
