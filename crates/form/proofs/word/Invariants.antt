-- At the loop's head the first j bytes of the word stand at i.
use Rattle.form.specs.Places.{Fits}
use Rattle.form.proofs.word.Given as goal

abbrev pub invariant-loop-j : goal.invariant-loop-j
invariant-loop-j l = Fits l.t l.i l.w l.j
