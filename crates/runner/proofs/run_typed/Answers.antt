-- `runner::run_typed` meets its contract: the machine goes on from the first moment.
use Rattle.std.proofs.Common.{arith}
use Rattle.stored.proofs.RunAnswers.{run_answers}
use Rattle.machine.proofs.FirstMoment.{first_moment}
use Rattle.runner.proofs.run_typed.Goals as goal

pub go_on-stand-requires : goal.go_on-stand-requires
go_on-stand-requires c =
    let row = c.row-row.ensures in
    rw row.is (omega arith, omega arith, (_, first_moment row.runnable c.requires c.new-pending.ensures (rw row.is at c.start.ensures)))

pub returns : goal.returns
returns c =
    let row = c.row-row.ensures in
    let ok = row.runnable in
    let first = first_moment ok c.requires c.new-pending.ensures (rw row.is at c.start.ensures) in
    run_answers ok.opens ok.holds ok.typed c.requires ((rw (row.is, c.from.ensures) at c.go_on-stand.ensures) _ first).1
