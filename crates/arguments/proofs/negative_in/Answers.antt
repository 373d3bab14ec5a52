-- 0 has no `-`.
use Rattle.std.proofs.Common.{arith, sym, ◌∙◌}
use Rattle.arguments.proofs.Words.{one_number, none_negative}
use Rattle.arguments.proofs.negative_in.Goals as goal

pub returns-in_err-n : goal.returns-in_err-n
returns-in_err-n c = rw c.from_residual.ensures (none_negative (λ n p l. c.in_err-n.ensures n (omega arith)))

pub returns-then-n-eq0 : goal.returns-then-n-eq0
returns-then-n-eq0 c = none_negative (λ n p k q. omega (arith, one_number c.in_ok-n.n n (sym c.in_ok-n.ensures.0 ∙ q), c.if-n-eq0.true))
