-- The invariant says what is left to compare.
use Rattle.descent.proofs.Words.{Spells}
use Rattle.descent.proofs.text.Text.word.Given as goal

abbrev pub invariant-loop-j : goal.invariant-loop-j
invariant-loop-j l = Spells l.self.bytes.now l.self.at l.w l.j
