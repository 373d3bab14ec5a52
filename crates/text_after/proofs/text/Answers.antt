-- `text_after::text` meets its contract: what the admission refuses is refused, and of what it admits the text is written.
use Rattle.std.proofs.lemmas.Result.{err_from_is_err_and}
use Rattle.checker.proofs.Admitting.{store_covers}
use Rattle.text_after.proofs.Showing.{run_refused}
use Rattle.text_after.proofs.text.Goals as goal

pub text_typed-requires : goal.text_typed-requires
text_typed-requires c = let x = c.in_ok-row.ensures in rw x.itself (store_covers x)

pub returns-in_err-row : goal.returns-in_err-row
returns-in_err-row c =
    let p = err_from_is_err_and c.from_residual.result c.from_residual.ensures.1 in
    rw (p.1, p.2) (run_refused c.args.k c.in_err-row.ensures)
