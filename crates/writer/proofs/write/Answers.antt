-- What opening refuses is refused.
use Rattle.std.proofs.lemmas.Result.{err_from_is_err_and}
use Rattle.text_form.proofs.AnyShown.{opening_refused}
use Rattle.writer.proofs.write.Goals as goal

pub returns-in_err-row : goal.returns-in_err-row
returns-in_err-row c =
    let p = err_from_is_err_and c.from_residual.result c.from_residual.ensures.1 in
    rw (p.1, p.2) (opening_refused c.in_err-row.ensures.opening)
