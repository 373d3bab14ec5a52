-- The pass begins at the first byte with an empty table; what its last turn says is said of the whole text.
use Rattle.std.proofs.Common.{arith}
use Rattle.std.proofs.lemmas.List.{length-replicate}
use Rattle.text_form.proofs.Fitting.{off, fine}
use Rattle.form.specs.Verdicts.{Says}
use Rattle.form.proofs.Tables.{begins, kept_start}
use Rattle.form.proofs.Numbers.{exit}
use Rattle.form.proofs.pass.Goals as goal

pub loop-next-init : goal.loop-next-init
loop-next-init g c = (begins c.args.t.now, kept_start _ (rw length-replicate c.requires.0))

pub returns-in_err-next : goal.returns-in_err-next
returns-in_err-next g c = exit (Says _) _ c.from_residual.ensures.1 (off c.args.t.now _ (λ k. omega (arith, c.type_inv.t k)) c.in_err-next.ensures.fits c.in_err-next.ensures.inside)

pub returns : goal.returns
returns g c = fine c.args.t.now (λ k. omega (arith, c.type_inv.t k)) (rw c.in_default.is at c.in_ok-next.ensures)
