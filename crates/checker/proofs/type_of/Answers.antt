-- The table has each form's type, or the number that stands for the second child's.
use Rattle.checker.proofs.Tables.{type_given}
use Rattle.checker.proofs.type_of.Goals as goal

pub returns : goal.returns
returns c = rw (c.pick-2.ensures, c.pick-own.ensures, c.pick.ensures, c.digit_of-given.ensures.0) (type_given _ _)
