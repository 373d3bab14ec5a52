-- The admission of the routine, with what follows it.
use Rattle.std.proofs.Common.{◌≡◌, ◌-◌, ℕ, List, length, min, refl, arith}
use Rattle.std.proofs.lemmas.Result.{err_from_is_err_and}
use Rattle.stored.specs.Refusals.{routine, after_routine}
use Rattle.checker.specs.Admits.{Admits}
use Rattle.checker.specs.declared.admission.Lent.TheVariants.{Input}
use Rattle.checker.specs.declared.admission.Row.{Row}
use Rattle.checker.proofs.Admitting.{may_run, input_whole}
use Rattle.trace_input.specs.Admitted.{Admitted}
use Rattle.trace_input.proofs.InputParts.{routine_length, rest_length}
use Rattle.trace_input.proofs.take_in.Goals as goal

admitted : (input : List ℕ) {row : Row} → Admits (routine input) (Input (length (after_routine input))) row → Admitted input
admitted input x = record { passes = x.passes; runnable = may_run x; rest = input_whole x }

-- what is left after the routine
rest_is : (input : List ℕ) (l end : ℕ) → l ≡ min 33035 (length input) → end ≡ length (routine input) → l - end ≡ length (after_routine input)
rest_is input l end p q = omega (arith, rest_length input)

pub overflow_sub-rest : goal.overflow_sub-rest
overflow_sub-rest c = omega (arith, c.min.ensures, c.routine_end-end.ensures.2, routine_length c.args.input.now)

pub returns-in_err-row : goal.returns-in_err-row
returns-in_err-row c =
    let input = c.args.input.now in
    let (the_routine, within, end) = c.routine_end-end.ensures in
    let p = err_from_is_err_and c.from_residual.result c.from_residual.ensures.1 in
    rw (p.1, p.2) (rw (the_routine, rest_is input c.min.result c.routine_end-end.result (omega (arith, c.min.ensures)) end) at c.in_err-row.ensures)

pub invariant_of-result : goal.invariant_of-result
invariant_of-result c =
    let input = c.args.input.now in
    let (the_routine, within, end) = c.routine_end-end.ensures in
    let x = rw (the_routine, rest_is input c.min.result c.routine_end-end.result (omega (arith, c.min.ensures)) end) at c.in_ok-row.ensures in
    (admitted input x, x.itself)

pub returns : goal.returns
returns c =
    let input = c.args.input.now in
    let (the_routine, within, end) = c.routine_end-end.ensures in
    let x = rw (the_routine, rest_is input c.min.result c.routine_end-end.result (omega (arith, c.min.ensures)) end) at c.in_ok-row.ensures in
    (admitted input x, refl)
