-- `runner::run` meets its contract: what the admission refuses is refused, and what it admits is run, with the fuel that was given.
use Rattle.std.proofs.lemmas.Result.{err_from_is_err_and}
use Rattle.stored.specs.Answers.{run_refuses}
use Rattle.checker.proofs.Admitting.{store_covers}
use Rattle.runner.proofs.run.Goals as goal

pub returns-in_err-row : goal.returns-in_err-row
returns-in_err-row c =
    let p = err_from_is_err_and c.from_residual.result c.from_residual.ensures.1 in
    rw (p.1, p.2) (run_refuses c.in_err-row.ensures)

pub run_typed-requires : goal.run_typed-requires
run_typed-requires c = let x = c.in_ok-row.ensures in rw x.itself (store_covers x)

-- the search finds this too; written out, it says of another fuel what is wrong with it
pub returns : goal.returns
returns c = let x = c.in_ok-row.ensures in rw x.itself at c.run_typed.ensures
