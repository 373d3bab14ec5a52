-- The byte behind the space tells the sign.
use Rattle.std.proofs.Common.{arith}
use Rattle.form.specs.Places.{Joins}
use Rattle.form.proofs.Telling as tell
use Rattle.form.proofs.Numbers.{exit}
use Rattle.form.proofs.joint.Goals as goal

pub returns-in_err-sign : goal.returns-in_err-sign
returns-in_err-sign c = exit (Joins _ _) _ c.from_residual.ensures.1 (tell.join_no_space c.in_err-sign.ensures)

pub returns-in_err-byte : goal.returns-in_err-byte
returns-in_err-byte c = exit (Joins _ _) _ c.from_residual-in_err-byte.ensures.1 (tell.join_end c.in_ok-sign.ensures c.in_err-byte.ensures.0 c.in_err-byte.ensures.1)

pub returns-in-43 : goal.returns-in-43
returns-in-43 c = tell.join_plus c.in_ok-sign.ensures c.in_ok-byte.ensures.0 c.in-43.is c.word-in-43.ensures

pub returns-in-62 : goal.returns-in-62
returns-in-62 c = tell.join_geq c.in_ok-sign.ensures c.in_ok-byte.ensures.0 c.in-62.is c.word-in-62.ensures

pub returns-in_default : goal.returns-in_default
returns-in_default c =
    tell.join_seq c.in_ok-sign.ensures c.in_ok-byte.ensures.0 (λ e. omega arith) (λ e. omega arith) c.word-in_default.ensures
