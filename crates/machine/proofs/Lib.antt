-- The laws of the machine.
pub mod Stacks  -- steps, overflows and types through the contexts
pub mod NodeActs  -- what the act at a node comes to
pub mod SumActs  -- what a sum comes to
pub mod ValueActs  -- what a value in the place on top comes to
pub mod Turns  -- a turn of the machine's loop
pub mod Loops  -- what the two loops share
pub mod FirstMoment  -- the first moment of a run
