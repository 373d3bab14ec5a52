-- A byte that is no digit ends the number; a digit is one more of it, and a value over the bound stays over it.
use Rattle.std.proofs.Common.{arith}
use Rattle.text_limits.proofs.Passing.{next_digit, no_digit_next, high}
use Rattle.text_limits.proofs.over.Goals as goal

pub returns-then-not-is_ascii_digit : goal.returns-then-not-is_ascii_digit
returns-then-not-is_ascii_digit c =
    let e = c.if-not-is_ascii_digit.ensures.cases in
    no_digit_next _ c.loop-b.b-index c.loop-b.v _ c.loop-b.invariant.1 _ (λ h p q. omega (arith, e)) (omega arith)

pub returns-then-from-v : goal.returns-then-from-v
returns-then-from-v c =
    let e = c.if-not-is_ascii_digit.ensures.cases in
    high _ _ _ _ (next_digit _ c.loop-b.b-index c.loop-b.v _ c.loop-b.invariant.1 (omega arith) (omega (arith, e), omega (arith, e)) c.from.ensures) (rw c.from-in-loop-b.ensures at c.if-from-v.true)

pub loop-b-preserved : goal.loop-b-preserved
loop-b-preserved c =
    let e = c.if-not-is_ascii_digit.ensures.cases in
    (omega arith, next_digit _ c.loop-b.b-index c.loop-b.v _ c.loop-b.invariant.1 (omega arith) (omega (arith, e), omega (arith, e)) c.from.ensures)

pub returns : goal.returns
returns c = no_digit_next _ c.loop-b.b-index c.loop-b.v _ c.loop-b.invariant.1 _ (λ h p q. omega arith) (omega arith)
