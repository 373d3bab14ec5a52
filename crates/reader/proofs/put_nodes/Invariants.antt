-- The first i bytes are put.
use Rattle.std.proofs.Common.{length, take, ◌≡◌}
use Rattle.reader.proofs.put_nodes.Given as goal

abbrev pub invariant-loop-i : goal.invariant-loop-i
invariant-loop-i l = (length l.room ≡ length l.initial.room) × (take l.i l.room ≡ take l.i l.nodes)
