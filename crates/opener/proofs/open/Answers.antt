-- What passed 1 to 9 is open.
use Rattle.routine.proofs.Opening.{opening_opens}
use Rattle.opener.proofs.open.Goals as goal

pub of-requires : goal.of-requires
of-requires c = let h = c.in_ok-sizes.ensures.1 in opening_opens (rw (h.0, h.1) c.in_ok-layout.ensures)
