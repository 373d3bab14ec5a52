-- A refusal of opening is the check's, and what was opened is checked.
use Rattle.std.proofs.Common.{[]}
use Rattle.std.proofs.lemmas.Result.{err_from_is_err_and}
use Rattle.stored.specs.Answers.{check_refuses}
use Rattle.stored.proofs.Admission.{opening_refused}
use Rattle.routine.specs.Open.{Opened, sizes_of}
use Rattle.routine.proofs.Opening.{opening_opens}
use Rattle.checker.proofs.Admitting.{typed_checks}
use Rattle.checker.proofs.check.Goals as goal

pub returns-in_err-open : goal.returns-in_err-open
returns-in_err-open c =
    let p = err_from_is_err_and c.from_residual.result c.from_residual.ensures.1 in
    rw (p.1, p.2) (check_refuses (opening_refused [] c.in_err-open.ensures.opening))

pub returns : goal.returns
returns c =
    let b = c.args.b.now in
    let row = c.in_ok-open.ensures in
    let o : Opened b = opening_opens {z = sizes_of b} (rw row.itself at row.opening) in
    typed_checks o c.check_row.result (rw row.itself at c.check_row.ensures)
