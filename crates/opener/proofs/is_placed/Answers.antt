-- The tests that the number of children chooses are those of the form's shape.
use Rattle.opener.proofs.Arities.{all_stand_lem}
use Rattle.opener.proofs.is_placed.Goals as goal

pub returns : goal.returns
returns c =
    let o = c.args in
    rw (c.stands-third.ensures, c.stands-second.ensures, c.stands-first.ensures, c.digit_of-shape.ensures.0, c.children_of-a.ensures.0)
    (all_stand_lem o.f o.i o.x o.y o.z o.q o.r)
