-- `Routine::node` may read node i: its eight bytes are there.

use Rattle.routine.proofs.Standing.{node_bytes_lem}
use Rattle.routine.proofs.Routine.node.Goals as goal

pub node_at-requires : goal.node_at-requires
node_at-requires c = node_bytes_lem c.self.invariant.is_open (rw (c.self.invariant.is_open.sizes.0, c.self.view_is) c.requires)
