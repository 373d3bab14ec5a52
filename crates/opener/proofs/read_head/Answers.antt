-- Each refusal is the first, by the tests before it and its own.
use Rattle.std.proofs.Common.{arith}
use Rattle.opener.proofs.Order.{first_1, first_2, first_3, first_4, first_5_none, first_5_over, first_6}
use Rattle.opener.proofs.read_head.Goals as goal

pub returns-then-b-lt6 : goal.returns-then-b-lt6
returns-then-b-lt6 c = first_1 _ (omega arith)

pub returns-then-after-b : goal.returns-then-after-b
returns-then-after-b c = first_2 _ (omega arith) (omega arith)

pub returns-then-b-ne1 : goal.returns-then-b-ne1
returns-then-b-ne1 c = first_3 _ (omega arith) (omega arith) (omega arith)

pub returns-then-b-gt64 : goal.returns-then-b-gt64
returns-then-b-gt64 c = first_4 _ (omega arith) (omega arith) (omega arith) (omega arith)

pub returns-then-n-eq0 : goal.returns-then-n-eq0
returns-then-n-eq0 c = first_5_none _ (omega arith) (omega arith) (omega arith) (omega arith) (omega arith)

pub returns-then-n-gt4096 : goal.returns-then-n-gt4096
returns-then-n-gt4096 c = first_5_over _ (omega arith) (omega arith) (omega arith) (omega arith) (omega arith)

pub returns-then-after-n : goal.returns-then-after-n
returns-then-after-n c = first_6 _ (omega arith) (omega arith) (omega arith) (omega arith) (omega arith) (omega arith) (omega arith)
