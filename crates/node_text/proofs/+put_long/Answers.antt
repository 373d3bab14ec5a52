-- One digit; or the digits of a number's hundredth, if it has three or more, and then two digits.
use Rattle.std.proofs.Common.{arith, ap, length, length-append}
use Rattle.node_text.proofs.Digits.{one_digit, two_digits, two_more}
use Rattle.node_text.proofs.PutLaws.{puts_more}
use Rattle.node_text.proofs.+put_long.Goals.{then-n-gt99, else-n-gt99}
use Rattle.node_text.proofs.+put_long.Goals as goal

pub byte-requires : goal.byte-requires
byte-requires t c = omega (arith, ap length (one_digit c.args.n (omega arith)), c.requires)

pub returns-then-n-lt-TWO_DIGITS : goal.returns-then-n-lt-TWO_DIGITS
returns-then-n-lt-TWO_DIGITS t c = rw (one_digit c.args.n (omega arith), ← c.digit.ensures) c.byte.ensures

pub put_long-requires : goal.put_long-requires
put_long-requires t c = (omega arith, omega (arith, simp length-append at (ap length (two_more c.args.n (omega arith)))))

pub text-requires : goal.text-requires
text-requires t c = elim c.if-n-gt99.branch [
  | then-n-gt99 w ↦ rw w.page-is (omega (arith, simp length-append at (ap length (two_more c.args.n (omega arith)))))
  | else-n-gt99 w ↦ rw w.page-is (omega (arith, ap length (two_digits c.args.n (omega arith) (omega arith)), c.requires))
]

pub returns : goal.returns
returns t c = elim c.if-n-gt99.branch [
  | then-n-gt99 w ↦
      rw (two_more c.args.n (omega arith), ← c.digit-2.ensures, ← c.digit-3.ensures) (puts_more w.put_long.ensures (rw w.page-is at c.text.ensures))
  | else-n-gt99 w ↦
      rw (two_digits c.args.n (omega arith) (omega arith), ← c.digit-2.ensures, ← c.digit-3.ensures) (rw w.page-is at c.text.ensures)
]
