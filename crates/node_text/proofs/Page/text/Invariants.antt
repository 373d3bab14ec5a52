-- The first j bytes of s are put.
use Rattle.std.proofs.Common.{take, ◌+◌}
use Rattle.node_text.specs.Put.{Put}
use Rattle.node_text.proofs.Page.text.Given as goal

abbrev pub invariant-loop-j : goal.invariant-loop-j
invariant-loop-j l = Put l.initial.room l.at (take l.j l.s) l.room (l.at + l.j)
