-- What is found gives the point that follows, and the table after it has the innermost levels.
use Rattle.std.proofs.Common.{rules}
use Rattle.form.proofs.Tables as table
use Rattle.form.proofs.advance.Goals as goal

-- that a table fits in memory comes first
pub pop-requires : goal.pop-requires
pop-requires g c =
    let s = rw c.in-Has.is at c.requires.stands in
    (search rules, rw (table.levels_seen c.args.t.now c.in-Has.i s.at.inside) (rw c.in-Has.is at c.requires.kept))

pub returns-in-Value : goal.returns-in-Value
returns-in-Value g c =
    let s = rw c.in-Wants.is at c.requires.stands in
    rw c.in-Wants.is (table.turn_value s (rw c.in-Value.is at (c.in_ok-end-in-Wants.ensures _ s)) (rw c.in-Wants.is at c.requires.kept))

pub returns-in-Opened : goal.returns-in-Opened
returns-in-Opened g c =
    let s = rw c.in-Wants.is at c.requires.stands in
    rw c.in-Wants.is (table.turn_opened s (rw c.in-Opened.is at (c.in_ok-end-in-Wants.ensures _ s)) (c.push.ensures _ (rw c.in-Wants.is at c.requires.kept)))

pub returns-in-Inside : goal.returns-in-Inside
returns-in-Inside g c =
    let s = rw c.in-Has.is at c.requires.stands in
    rw c.in-Has.is (table.turn_inside s (rw c.in-Inside.is at c.in_ok-next-in-Has.ensures) (rw c.in-Has.is at c.requires.kept))

pub returns-in-Closed : goal.returns-in-Closed
returns-in-Closed g c =
    let s = rw c.in-Has.is at c.requires.stands in
    rw c.in-Has.is
    (table.turn_closed s (rw c.in-Closed.is at c.in_ok-next-in-Has.ensures)
    (rw (table.levels_seen c.args.t.now c.in-Has.i s.at.inside) at c.pop.ensures))
