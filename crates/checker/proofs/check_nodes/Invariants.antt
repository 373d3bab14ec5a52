-- At the loop's head the nodes below i are passed, with their types in the table, and W and the two words are those of these nodes.
use Rattle.std.proofs.Common.{ℕ, ◌≡◌, ◌≤◌, ◌<◌, length, get_or}
use Rattle.l1.specs.Sets.{reading, writing}
use Rattle.checker.proofs.TypeTurn.{Passed}
use Rattle.checker.proofs.Counting.{work_to, word_to}
use Rattle.checker.proofs.check_nodes.Given as goal

abbrev pub invariant-loop-i : goal.invariant-loop-i
invariant-loop-i g l = record {
  room : length l.types ≡ g.row.N;
  past : (j : ℕ) → j < l.i → Passed l.row l.types j;
  few : l.working ≤ l.i;
  work : l.working ≡ work_to l.row l.i;
  kinds : length l.named ≡ 16;
  reads : get_or l.named 6 0 ≡ word_to reading l.row l.i;
  writes : get_or l.named 5 0 ≡ word_to writing l.row l.i;
}
