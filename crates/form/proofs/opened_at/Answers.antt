-- The byte behind the bracket tells the form.
use Rattle.std.proofs.Common.{arith}
use Rattle.form.specs.Places.{Opens}
use Rattle.form.proofs.Telling as tell
use Rattle.form.proofs.Numbers.{exit}
use Rattle.form.proofs.opened_at.Goals as goal

pub returns-in_err-byte : goal.returns-in_err-byte
returns-in_err-byte c = exit (Opens _ _) _ c.from_residual.ensures.1 (tell.open_end c.in_err-byte.ensures.0 c.in_err-byte.ensures.1)

pub returns-in_err-word-in-105 : goal.returns-in_err-word-in-105
returns-in_err-word-in-105 c = exit (Opens _ _) _ c.from_residual-in_err-word-in-105.ensures.1 (tell.open_if c.in_ok-byte.ensures.0 c.in-105.is c.in_err-word-in-105.ensures)

pub returns-in_ok-word-in-105 : goal.returns-in_ok-word-in-105
returns-in_ok-word-in-105 c = tell.open_if c.in_ok-byte.ensures.0 c.in-105.is c.in_ok-word-in-105.ensures

pub returns-in_err-word-in-119 : goal.returns-in_err-word-in-119
returns-in_err-word-in-119 c = exit (Opens _ _) _ c.from_residual-in_err-word-in-119.ensures.1 (tell.open_while c.in_ok-byte.ensures.0 c.in-119.is c.in_err-word-in-119.ensures)

pub returns-in_ok-word-in-119 : goal.returns-in_ok-word-in-119
returns-in_ok-word-in-119 c = tell.open_while c.in_ok-byte.ensures.0 c.in-119.is c.in_ok-word-in-119.ensures

pub returns-in_err-number_end-in-108 : goal.returns-in_err-number_end-in-108
returns-in_err-number_end-in-108 c = exit (Opens _ _) _ c.from_residual-in_err-number_end-in-108.ensures.1 (tell.open_no_number c.in_ok-byte.ensures.0 c.in-108.is c.in_err-number_end-in-108.ensures)

pub returns-in_err-word-in-108 : goal.returns-in_err-word-in-108
returns-in_err-word-in-108 c = exit (Opens _ _) _ c.from_residual-in_err-word-in-108.ensures.1 (tell.open_assign c.in_ok-byte.ensures.0 c.in-108.is c.in_ok-number_end-in-108.ensures c.in_err-word-in-108.ensures)

pub returns-in_ok-word-in-108 : goal.returns-in_ok-word-in-108
returns-in_ok-word-in-108 c = tell.open_assign c.in_ok-byte.ensures.0 c.in-108.is c.in_ok-number_end-in-108.ensures c.in_ok-word-in-108.ensures

pub returns-in_default : goal.returns-in_default
returns-in_default c = tell.open_left c.in_ok-byte.ensures.0 c.requires.1 (λ e. omega arith) (λ e. omega arith) (λ e. omega arith)
