-- `text_after::show` meets its contract: the run from the first moment, its moment's text measured, and written where it has room.
use Rattle.std.proofs.Common.{arith, rules}
use Rattle.stored.specs.Answers.{wrote}
use Rattle.routine.proofs.Standing.{is_headed}
use Rattle.machine.specs.Moment.{Moment}
use Rattle.machine.proofs.FirstMoment.{first_moment}
use Rattle.moment_text.proofs.MomentStands.{moment_stands}
use Rattle.text_after.specs.Shows.{Shows}
use Rattle.text_after.proofs.Showing.{long_shown, put_shown}
use Rattle.text_after.proofs.show.Goals.{After-start-first}
use Rattle.text_after.proofs.show.Goals as goal

-- the first moment of the run
first : (c : After-start-first) → Moment c.args.row.now c.args.s.now c.args.s.now c.new-pending.result c.start-first.result
first c = first_moment c.requires.0 c.requires.1 c.new-pending.ensures c.start-first.ensures

pub go_on-stand-requires : goal.go_on-stand-requires
go_on-stand-requires c =
    (omega (arith, c.from.ensures, c.ranges.k.fits), omega (arith, c.start-first.ensures.1), (_, first (goal.at.go_on-stand-requires c).After-start-first))

pub measure-requires : goal.measure-requires
measure-requires c = let h = is_headed c.requires.0.opens c.requires.0.holds in h.few_nodes

pub of-moment-requires : goal.of-moment-requires
of-moment-requires c =
    let h = is_headed c.requires.0.opens c.requires.0.holds in
    let (m, y) = c.go_on-stand.ensures _ (first (goal.at.of-moment-requires c).After-start-first) in
    (moment_stands m, m.seen, (omega (arith, h.few_nodes, c.measure.ensures.same_length), c.measure.ensures.lengths))

pub returns-then-buf-n : goal.returns-then-buf-n
returns-then-buf-n c =
    let (m, y) = c.go_on-stand.ensures _ (first (goal.at.returns-then-buf-n c).After-start-first) in
    long_shown (rw c.from.ensures at y) (rw c.of-moment.ensures at c.length-n.ensures.0) c.if-buf-n.true

pub returns : goal.returns
returns c =
    let (m, y) = c.go_on-stand.ensures _ (first (goal.at.returns c).After-start-first) in
    let page = c.put.new.page in
    let put = rw c.of-moment.ensures at c.put.ensures.put in
    let n = rw c.of-moment.ensures at c.length-n.ensures.0 in
    let w : Shows c.args.row.now c.args.s.now c.args.k c.args.buf.now (wrote page.at c.go_on-stand.result.machine.steps) page.room.now =
    put_shown (rw c.from.ensures at y) put (omega (arith, n, c.if-buf-n.false)) in
    search rules
