-- The four bytes after the routine.
use Rattle.std.proofs.Common.{sym, ap, ◌∙◌, arith}
use Rattle.stored.specs.Trace.{fuel_in}
use Rattle.trace_input.proofs.InputParts.{rest_length, four_after}
use Rattle.trace_input.proofs.Taken.fuel.Goals as goal

pub four_at-requires : goal.four_at-requires
four_at-requires c =
    omega (arith, c.routine_end.ensures.2, rest_length c.self.inside.input.now, c.self.invariant.0.rest)

pub returns : goal.returns
returns c =
    let input = c.self.inside.input.now in
    c.four_at.ensures
    ∙ sym (four_after input 0 c.routine_end.result (omega (arith, c.self.invariant.0.rest)) (omega (arith, c.routine_end.ensures.2)))
    ∙ ap fuel_in c.self.view_is
