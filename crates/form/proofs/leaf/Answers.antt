-- The first byte tells the expression.
use Rattle.std.proofs.Common.{arith}
use Rattle.form.specs.Places.{Leaf}
use Rattle.form.proofs.Telling as tell
use Rattle.form.proofs.Numbers.{exit}
use Rattle.form.proofs.leaf.Goals as goal

pub returns-in_err-byte : goal.returns-in_err-byte
returns-in_err-byte c = exit (Leaf _ _) _ c.from_residual.ensures.1 (λ o. tell.want_end c.in_err-byte.ensures.0 c.in_err-byte.ensures.1)

pub returns-in-116 : goal.returns-in-116
returns-in-116 c = tell.want_true c.in_ok-byte.ensures.0 c.in-116.is c.word.ensures

pub returns-in-102 : goal.returns-in-102
returns-in-102 c = tell.want_false c.in_ok-byte.ensures.0 c.in-102.is c.word-in-102.ensures

pub returns-in-115 : goal.returns-in-115
returns-in-115 c = tell.want_skip c.in_ok-byte.ensures.0 c.in-115.is c.word-in-115.ensures

pub returns-in-45 : goal.returns-in-45
returns-in-45 c = tell.want_minus c.in_ok-byte.ensures.0 c.in-45.is c.positive.ensures

pub returns-in_err-word-in-33 : goal.returns-in_err-word-in-33
returns-in_err-word-in-33 c = exit (Leaf _ _) _ c.from_residual-in_err-word-in-33.ensures.1 (tell.want_no_location c.in_ok-byte.ensures.0 c.in-33.is c.in_err-word-in-33.ensures)

pub returns-in_ok-word-in-33 : goal.returns-in_ok-word-in-33
returns-in_ok-word-in-33 c = tell.want_location c.in_ok-byte.ensures.0 c.in-33.is c.in_ok-word-in-33.ensures c.natural.ensures

pub returns-in_default : goal.returns-in_default
returns-in_default c =
    tell.want_number c.in_ok-byte.ensures.0 (λ e. omega arith) (λ e. omega arith) (λ e. omega arith) (λ e. omega arith) (λ e. omega arith) c.natural-in_default.ensures
