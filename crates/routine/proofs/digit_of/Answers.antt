-- `routine::digit_of` meets its contract: the kind is what its call ensures.
use Rattle.std.proofs.Common.{arith, ap, ℕ, ◌*◌, ◌/◌, ◌%◌, ◌^◌}
use Rattle.routine.specs.Forms.{digit_of}
use Rattle.routine.proofs.digit_of.Goals as goal

pub returns : goal.returns
unfolding digit_of
returns c =
    (ap (λ (k : ℕ). c.args.table / 2 ^ (4 * k) % 16) (omega (arith, c.kind_of.ensures.0, c.kind_of.ensures.1)), omega arith)
