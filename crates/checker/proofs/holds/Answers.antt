-- The tests that the tables choose are those of the form's rule.
use Rattle.checker.proofs.Tables.{rule_holds, same_by_number}
use Rattle.checker.proofs.holds.Goals as goal

pub returns : goal.returns
returns c =
    rw
    (c.suits-first.ensures, c.suits-second.ensures, c.digit_of.ensures.0, c.digit_of-2.ensures.0, c.digit_of-further.ensures.0, c.eq.ensures, same_by_number)
    (rule_holds _ _ _ _ _ _)
