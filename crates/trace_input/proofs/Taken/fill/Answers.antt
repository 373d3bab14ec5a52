-- The values after the fuel, at their place in the input.
use Rattle.std.proofs.Common.{◌+◌, ◌*◌, ◌≡◌, length, sym, ◌∙◌, ap, arith}
use Rattle.stored.specs.Refusals.{locations, routine, after_routine}
use Rattle.stored.specs.Trace.{values_from, store_in}
use Rattle.stored.proofs.ValueLists.{values_within}
use Rattle.trace_input.proofs.InputParts.{rest_length, four_after}
use Rattle.trace_input.proofs.Taken.fill.Goals as goal

pub values_at-requires : goal.values_at-requires
values_at-requires c =
    let m : length c.args.s.now ≡ locations (routine c.self.inside.input.now) = rw c.self.view_is c.requires in
    omega (arith, c.routine_end.ensures.2, rest_length c.self.inside.input.now, c.self.invariant.0.rest, m)

pub returns : goal.returns
returns c =
    let input = c.self.inside.input.now in let at = c.routine_end.result + 4 in
    let m : length c.args.s.now ≡ locations (routine input) = rw c.self.view_is c.requires in
    c.values_at.ensures ∙ ap (values_from input at) m
    ∙ sym (values_within input (after_routine input) at 4 (locations (routine input))
    (λ k h. four_after input (4 + 4 * k) (at + 4 * k) (omega (arith, c.self.invariant.0.rest)) (omega (arith, c.routine_end.ensures.2))))
    ∙ ap store_in c.self.view_is
