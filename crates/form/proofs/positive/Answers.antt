-- A digit that is not 0, and the digits behind it.
use Rattle.std.proofs.Common.{arith}
use Rattle.form.specs.Places.{Number}
use Rattle.form.proofs.Numbers.{exit, positive_end, positive_past, positive_none}
use Rattle.form.proofs.positive.Goals as goal

pub returns-in_err-byte : goal.returns-in_err-byte
returns-in_err-byte c = exit (Number _ _ _) _ c.from_residual.ensures.1 (positive_end c.in_err-byte.ensures.0 c.in_err-byte.ensures.1)

pub returns-in-49-to-57 : goal.returns-in-49-to-57
returns-in-49-to-57 c = positive_past c.in_ok-byte.ensures.0 (omega arith) (omega arith) c.digits.ensures

pub returns-in_default : goal.returns-in_default
returns-in_default c = positive_none c.in_ok-byte.ensures.0 (λ p q. omega arith)

pub returns-in_default-2 : goal.returns-in_default-2
returns-in_default-2 c = positive_none c.in_ok-byte.ensures.0 (λ p q. omega arith)
