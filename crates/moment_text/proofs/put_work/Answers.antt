-- In each arm, the text of its work.
use Rattle.std.proofs.Common.{rules}
use mir.Syntax.{w32}
use mir.ValLaws.{to_z-of_z}
use Rattle.l1.specs.Text.{text}
use Rattle.moment_text.proofs.put_work.Goals as goal

pub number-requires : goal.number-requires
unfolding text
number-requires c = rw (to_z-of_z w32 c.in-Int.n (search rules)) (rw c.in-Int.is at c.requires.2)

pub truth-requires : goal.truth-requires
unfolding text
truth-requires c = rw c.in-Bool.is at c.requires.2

pub text-requires : goal.text-requires
unfolding text
text-requires c = rw c.in-Skip.is at c.requires.2

pub returns-in-Int : goal.returns-in-Int
unfolding text
returns-in-Int c = rw c.in-Int.is (rw (to_z-of_z w32 c.in-Int.n (search rules)) at c.number.ensures)

pub returns-in-Bool : goal.returns-in-Bool
unfolding text
returns-in-Bool c = rw c.in-Bool.is c.truth.ensures

pub returns-in-Skip : goal.returns-in-Skip
unfolding text
returns-in-Skip c = rw c.in-Skip.is c.text.ensures
