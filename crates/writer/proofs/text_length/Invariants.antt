-- At the loop's head the length is the sum over the nodes below i.
use Rattle.std.proofs.Common.{◌*◌, ◌≤◌, ◌≡◌}
use Rattle.writer.proofs.OwnSums.{length_to}
use Rattle.writer.proofs.text_length.Given as goal

abbrev pub invariant-loop-i : goal.invariant-loop-i
invariant-loop-i l = record { few : l.length ≤ 27 * l.i; sum : l.length ≡ length_to l.row l.i }
