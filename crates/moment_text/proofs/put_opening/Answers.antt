-- An integer to the left of an operator: the bracket, its digits and the sign.
use mir.Syntax.{w32}
use mir.ValLaws.{to_z-of_z}
use borrow.Author.Rules.{rules}
use Rattle.node_text.proofs.PutLaws.{puts_more}
use Rattle.moment_text.proofs.put_opening.Goals as goal

pub returns-in-PlusRight : goal.returns-in-PlusRight
returns-in-PlusRight c =
    let number = rw (to_z-of_z w32 c.in-PlusRight.n (search rules)) at c.number.ensures in
    rw c.in-PlusRight.is (puts_more (puts_more c.byte-in-PlusRight.ensures number) c.text.ensures)

pub returns-in-GeqRight : goal.returns-in-GeqRight
returns-in-GeqRight c =
    let number = rw (to_z-of_z w32 c.in-GeqRight.n (search rules)) at c.number-in-GeqRight.ensures in
    rw c.in-GeqRight.is (puts_more (puts_more c.byte-in-GeqRight.ensures number) c.text-in-GeqRight.ensures)
