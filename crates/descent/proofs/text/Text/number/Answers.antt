-- A number is read digit by digit: the laws of Numerals.antt, at each end.
use Rattle.std.proofs.Common.{arith}
use Rattle.descent.proofs.Words.{is_byte, no_byte}
use Rattle.descent.proofs.Numerals.{zero_number, digits_on, too_large, none_there, all_there}
use Rattle.descent.proofs.text.Text.number.Goals as goal

pub returns-then-eq-clause-found : goal.returns-then-eq-clause-found
returns-then-eq-clause-found c = zero_number c.args.self.now.bytes.now c.args.self.now.at c.args.bound (is_byte c.next.result 48 c.next.ensures c.if-eq.ensures)

pub returns-then-from-value-clause-found : goal.returns-then-from-value-clause-found
returns-then-from-value-clause-found c =
    let (h, l, m) = c.in-Some.ensures in
    too_large c.loop-c.invariant.1 (no_byte c.next.result 48 c.next.ensures (omega arith) c.if-eq.ensures) (rw c.loop-c.invariant.0 at h) l m (omega arith)

pub loop-c-preserved : goal.loop-c-preserved
loop-c-preserved c =
    let (h, l, m) = c.in-Some.ensures in (
      c.loop-c.invariant.0,
      rw c.from.ensures (digits_on c.loop-c.invariant.1 (no_byte c.next.result 48 c.next.ensures (omega arith) c.if-eq.ensures) (rw c.loop-c.invariant.0 at h) l m (omega arith)),
    )

pub returns-then-self-start-clause-found : goal.returns-then-self-start-clause-found
returns-then-self-start-clause-found c =
    none_there c.loop-c.invariant.1 (no_byte c.next.result 48 c.next.ensures (omega arith) c.if-eq.ensures) (rw c.loop-c.invariant.0 at c.in_default.ensures) c.if-self-start.true

pub returns-clause-found : goal.returns-clause-found
returns-clause-found c =
    let h = all_there c.loop-c.invariant.1 (no_byte c.next.result 48 c.next.ensures (omega arith) c.if-eq.ensures) (rw c.loop-c.invariant.0 at c.in_default.ensures) c.if-self-start.false in
    rw c.loop-c.invariant.0 h
