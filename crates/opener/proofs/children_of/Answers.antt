-- The table's digit for each form.
use Rattle.std.proofs.Common.{arith}
use Rattle.opener.proofs.Arities.{children}
use Rattle.opener.proofs.children_of.Goals as goal

pub returns : goal.returns
returns c = (rw c.digit_of.ensures.0 (children _), omega arith)
