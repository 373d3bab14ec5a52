-- A value's length is that of its text.
use Rattle.std.proofs.Common.{arith}
use mir.Syntax.{w32}
use mir.ValLaws.{to_z-of_z}
use borrow.Author.Rules.{rules}
use Rattle.l1.specs.Text.{text}
use Rattle.moment_text.proofs.Lengths.work.Goals as goal

pub returns-in-Int : goal.returns-in-Int
unfolding text
returns-in-Int c =
    let w = rw (to_z-of_z w32 c.in-Int.n (search rules)) at c.number_width.ensures in
    rw c.in-Int.is (omega (arith, w))

pub returns-in-Bool : goal.returns-in-Bool
unfolding text
returns-in-Bool c = rw c.in-Bool.is (omega (arith, c.truth_width.ensures))

pub returns-in-Skip : goal.returns-in-Skip
unfolding text
returns-in-Skip c = rw c.in-Skip.is (omega arith)
