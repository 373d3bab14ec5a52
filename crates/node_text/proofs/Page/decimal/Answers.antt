-- One digit, two, or as many as there are.
use Rattle.std.proofs.Common.{arith, ap, length}
use Rattle.node_text.proofs.Digits.{one_digit, two_digits}
use Rattle.node_text.proofs.Page.decimal.Goals as goal

pub byte-requires : goal.byte-requires
byte-requires c = omega (arith, ap length (one_digit c.args.n (omega arith)), c.requires)

pub returns-then-n-le9 : goal.returns-then-n-le9
returns-then-n-le9 c = rw (one_digit c.args.n (omega arith), ← c.digit.ensures) c.byte.ensures

pub text-requires : goal.text-requires
text-requires c = omega (arith, ap length (two_digits c.args.n (omega arith) (omega arith)), c.requires)

pub returns-then-n-le99 : goal.returns-then-n-le99
returns-then-n-le99 c =
    rw (two_digits c.args.n (omega arith) (omega arith), ← c.digit-then-n-le99.ensures, ← c.digit-then-n-le99-2.ensures) c.text.ensures
