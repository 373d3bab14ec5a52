-- The invariant: a tree stands at each node passed, and the table tells of it.
use Rattle.std.proofs.Common.{ℕ, ◌≡◌, ◌<◌, length}
use Rattle.opener.specs.Subtrees.{Passed}
use Rattle.opener.proofs.lay.Given as goal

abbrev pub invariant-loop-i : goal.invariant-loop-i
invariant-loop-i g l = (length l.table ≡ g.row.N) × ((j : ℕ) → j < l.i → Passed l.b l.table j)
