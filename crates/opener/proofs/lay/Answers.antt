-- The refusal of the node at which none stands, and what the root's entry tells at the end.
use Rattle.std.proofs.Common.{arith}
use Rattle.std.proofs.lemmas.Result.{err_from_is_err_and}
use Rattle.opener.proofs.LayoutTurn.{parted, crowded, whole}
use Rattle.opener.proofs.Order.{first_7}
use Rattle.opener.proofs.lay.Goals as goal

pub returns-in_err-tell : goal.returns-in_err-tell
returns-in_err-tell g c =
    let p = err_from_is_err_and c.from_residual.result c.from_residual.ensures.1 in
    let (q, none) = c.in_err-tell.ensures.breaks in
    rw (p.1, p.2, q) (first_7 _ c.requires.0 (omega (arith, c.requires.1)) (λ j l. (c.loop-i.invariant.1 j l).stands) none)

pub returns-then-root-ne0 : goal.returns-then-root-ne0
returns-then-root-ne0 g c = parted c.requires.0 c.requires.1 c.loop-i-test.false c.loop-i.table c.loop-i.invariant.1 c.if-root-ne0.true

pub returns-then-root-gt-MOST_PLACES : goal.returns-then-root-gt-MOST_PLACES
returns-then-root-gt-MOST_PLACES g c =
    crowded c.requires.0 c.requires.1 c.loop-i-test.false c.loop-i.table c.loop-i.invariant.1 c.if-root-ne0.false c.if-root-gt-MOST_PLACES.true

pub returns-else-root-gt-MOST_PLACES : goal.returns-else-root-gt-MOST_PLACES
returns-else-root-gt-MOST_PLACES g c =
    whole c.requires.0 c.requires.1 c.loop-i-test.false c.loop-i.table c.loop-i.invariant.1 c.if-root-ne0.false c.if-root-gt-MOST_PLACES.false
