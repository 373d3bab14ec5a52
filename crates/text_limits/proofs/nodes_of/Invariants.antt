-- What is counted so far.
use Rattle.std.proofs.Common.{◌≡◌, take}
use Rattle.std.specs.List.{count_by}
use Rattle.text_limits.specs.Marks.{counted}
use Rattle.text_limits.proofs.Counting.{taken}
use Rattle.text_limits.proofs.nodes_of.Given as goal

abbrev pub invariant-loop-b : goal.invariant-loop-b
invariant-loop-b l =
    (l.children ≡ count_by counted (take l.b-index l.t)) × (l.loops ≡ count_by taken (take l.b-index l.t))
