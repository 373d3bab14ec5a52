-- The measure is the number.
use Rattle.node_text.proofs.+put_long.Given as goal

abbrev pub decreases-put_long : goal.decreases-put_long
decreases-put_long l = l.n
