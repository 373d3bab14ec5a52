-- `Routine::locations`: the sizes are within the limits.
use Rattle.std.proofs.Common.{arith}
use Rattle.routine.proofs.Standing.{is_headed}
use Rattle.routine.proofs.Routine.locations.Goals as goal

pub returns-clause-within : goal.returns-clause-within
returns-clause-within c =
    let h = is_headed c.self.invariant.is_open.opens c.self.invariant.is_open.holds in
    omega (arith, c.self.invariant.is_open.sizes.1, h.few_locations)
