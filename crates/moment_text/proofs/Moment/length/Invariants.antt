-- The sum is the length of the work and of what opens and closes the places below j.
use Rattle.std.proofs.Common.{◌≡◌, ◌+◌, ◌*◌, ◌≤◌}
use Rattle.moment_text.proofs.TextAround.{around}
use Rattle.moment_text.proofs.Moment.length.Given as goal

abbrev pub invariant-loop-j : goal.invariant-loop-j
invariant-loop-j l = (l.n ≡ l.initial.n + around l.lengths.row.now l.pending.frames l.j) × (l.n ≤ 200000 + 400000 * l.j)
