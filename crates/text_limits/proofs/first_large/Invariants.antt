-- No mark is before i.
use Rattle.text_limits.proofs.Passing.{Passed}
use Rattle.text_limits.proofs.first_large.Given as goal

abbrev pub invariant-loop-i : goal.invariant-loop-i
invariant-loop-i l = Passed l.t l.numbers l.i l.p
