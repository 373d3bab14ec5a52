-- `Routine::root`: the sizes are within the limits.
use Rattle.std.proofs.Common.{arith}
use Rattle.routine.proofs.Standing.{is_headed}
use Rattle.routine.proofs.Routine.root.Goals as goal

pub overflow_cast-result : goal.overflow_cast-result
overflow_cast-result c =
    let h = is_headed c.self.invariant.is_open.opens c.self.invariant.is_open.holds in
    omega (arith, c.self.invariant.is_open.sizes.0, h.few_nodes)
