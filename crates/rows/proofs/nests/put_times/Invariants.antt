-- The place behind the last part lies in the text.
use Rattle.std.proofs.Common.{length, ◌≤◌}
use Rattle.rows.proofs.nests.put_times.Given as goal

abbrev pub invariant-loop : goal.invariant-loop
invariant-loop l = l.end ≤ length l.text
