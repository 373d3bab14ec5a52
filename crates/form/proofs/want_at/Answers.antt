-- A bracket, or an expression without parts.
use Rattle.form.specs.Places.{Wanted}
use Rattle.form.proofs.Telling as tell
use Rattle.form.proofs.Numbers.{exit}
use Rattle.form.proofs.want_at.Goals as goal

pub returns-in_err-byte : goal.returns-in_err-byte
returns-in_err-byte c = exit (Wanted _ _) _ c.from_residual.ensures.1 (tell.want_end c.in_err-byte.ensures.0 c.in_err-byte.ensures.1)

pub returns-in-40 : goal.returns-in-40
returns-in-40 c = tell.want_open c.in_ok-byte.ensures.0 c.in-40.is c.opened_at.ensures
