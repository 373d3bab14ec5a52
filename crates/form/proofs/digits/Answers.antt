-- One digit more, or none.
use Rattle.std.proofs.Common.{arith}
use Rattle.form.proofs.Numbers.{one_digit, no_digit, digits_end}
use Rattle.form.proofs.digits.Goals as goal

pub returns-then-not-is_ascii_digit : goal.returns-then-not-is_ascii_digit
returns-then-not-is_ascii_digit c =
    let e = c.is_ascii_digit.ensures in
    no_digit c.loop-k.invariant (omega arith) (λ p q. omega (arith, c.if-not-is_ascii_digit.ensures.cases))

pub loop-k-preserved : goal.loop-k-preserved
loop-k-preserved c =
    let e = c.if-not-is_ascii_digit.ensures.cases in
    one_digit c.loop-k.invariant (omega arith) (omega (arith, e)) (omega (arith, e))

pub returns : goal.returns
returns c = digits_end c.loop-k.invariant (omega arith)
