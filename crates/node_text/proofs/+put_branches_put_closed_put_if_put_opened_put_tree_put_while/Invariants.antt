-- The measure is three times the node's number, and one more for the whole node, two more for a node with what stands around it.
use Rattle.std.proofs.Common.{◌+◌, ◌*◌, max}
use Rattle.node_text.proofs.+put_branches_put_closed_put_if_put_opened_put_tree_put_while.Given as goal

abbrev pub decreases-put_branches : goal.decreases-put_branches
decreases-put_branches l = 3 * max l.c l.d + 2

abbrev pub decreases-put_closed : goal.decreases-put_closed
decreases-put_closed l = 3 * l.j + 2

abbrev pub decreases-put_if : goal.decreases-put_if
decreases-put_if l = 3 * l.i

abbrev pub decreases-put_opened : goal.decreases-put_opened
decreases-put_opened l = 3 * l.j + 2

abbrev pub decreases-put_tree : goal.decreases-put_tree
decreases-put_tree l = 3 * l.i + 1

abbrev pub decreases-put_while : goal.decreases-put_while
decreases-put_while l = 3 * l.i
