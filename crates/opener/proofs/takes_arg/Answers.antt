-- The table has the bits of each form's byte 1.
use Rattle.std.proofs.Common.{arith}
use Rattle.opener.proofs.Arities.{taken}
use Rattle.opener.proofs.takes_arg.Goals as goal

pub returns : goal.returns
returns c = rw (c.digit_of.ensures.0, c.from.ensures) (taken _ _ (omega arith))
