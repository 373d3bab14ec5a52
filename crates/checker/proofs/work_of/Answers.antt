-- The table has 1 for the forms that W counts.
use Rattle.checker.proofs.Tables.{work_counted}
use Rattle.checker.proofs.work_of.Goals as goal

pub returns : goal.returns
returns c = rw c.digit_of.ensures.0 (work_counted _)
