-- What opens the places below j is written.
use Rattle.node_text.specs.Pages.{Puts}
use Rattle.moment_text.specs.Around.{opens_of}
use Rattle.moment_text.proofs.put_opens.Given as goal

abbrev pub invariant-loop-j : goal.invariant-loop-j
invariant-loop-j l = Puts l.initial.page (opens_of l.pending.frames l.j) l.page
