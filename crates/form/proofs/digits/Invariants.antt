-- At the loop's head the bytes from i up to k are digits.
use Rattle.form.proofs.Numbers.{Passed}
use Rattle.form.proofs.digits.Given as goal

abbrev pub invariant-loop-k : goal.invariant-loop-k
invariant-loop-k l = Passed l.t l.i l.k
