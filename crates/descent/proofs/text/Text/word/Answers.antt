-- A word is there where each byte of it is.
use Rattle.std.proofs.Common.{arith, drop, length-drop}
use Rattle.descent.proofs.Words.{short, spells_on, misspelled, spelt}
use Rattle.descent.proofs.text.Text.word.Goals as goal

pub returns-then-self-w-clause-found : goal.returns-then-self-w-clause-found
returns-then-self-w-clause-found c = short c.args.w.now (drop c.args.self.now.at c.args.self.now.bytes.now) (simp length-drop (omega arith))

pub returns-then-self-j-clause-found : goal.returns-then-self-j-clause-found
returns-then-self-j-clause-found c = misspelled c.loop-j.invariant (omega arith) c.if-self-j.true

pub loop-j-preserved : goal.loop-j-preserved
loop-j-preserved c = spells_on c.loop-j.invariant (omega arith) c.if-self-j.false

pub returns-clause-found : goal.returns-clause-found
returns-clause-found c = spelt c.loop-j.invariant (omega arith)
