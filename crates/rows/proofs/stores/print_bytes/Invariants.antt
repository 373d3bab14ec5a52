-- Each piece that is still to come has at most 256 bytes.
use Rattle.std.proofs.Common.{◌≡◌}
use Rattle.rows.proofs.stores.print_bytes.Given as goal

abbrev pub invariant-loop-piece : goal.invariant-loop-piece
invariant-loop-piece g l = l.piece-iterator.size ≡ 256
