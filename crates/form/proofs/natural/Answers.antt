-- 0 stands alone, and other numbers do not begin with it.
use Rattle.std.proofs.Common.{arith}
use Rattle.form.specs.Places.{Number}
use Rattle.form.proofs.Numbers.{exit, natural_end, natural_zero, natural_other}
use Rattle.form.proofs.natural.Goals as goal

pub returns-in_err-byte : goal.returns-in_err-byte
returns-in_err-byte c = exit (Number _ _ _) _ c.from_residual.ensures.1 (natural_end c.in_err-byte.ensures.0 c.in_err-byte.ensures.1)

pub returns-in-48 : goal.returns-in-48
returns-in-48 c = let e = c.in_ok-byte.ensures in natural_zero e.0 c.in-48.is e.1

pub returns-in_default : goal.returns-in_default
returns-in_default c = natural_other c.in_ok-byte.ensures.0 (λ e. omega arith) c.positive.ensures
