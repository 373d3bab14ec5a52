-- The pages are those of the run: the first is, and what is handed on to the next stands at the last moment of the one before.
use Rattle.std.proofs.Common.{◌≤◌, ◌∙◌, arith}
use lib.Seq.{length-take-le}
use Rattle.routine.proofs.Standing.{is_headed}
use Rattle.trace_lines.proofs.Telling.{told_here, tells_keeps}
use Rattle.trace_output.proofs.print_run.Given.{Over}
use Rattle.trace_output.proofs.print_run.Goals.{After-from}
use Rattle.trace_output.proofs.print_run.Goals as goal

-- the routine's locations are in the array
few : (g : Over) (c : After-from g) → c.from.result ≤ 64
few g c = omega (arith, c.from.ensures, c.locations.ensures.within)

pub measure-requires : goal.measure-requires
measure-requires g c =
    let o = c.locations.ensures.opened in omega (arith, (is_headed o.opens o.holds).few_nodes)

pub invariant_of-teller : goal.invariant_of-teller
invariant_of-teller g c =
    let o = rw c.row-row.ensures.is at c.locations.ensures.opened in
    let filled = rw c.row-row.ensures.is at c.measure.ensures in
    record { measured = (omega (arith, (is_headed o.opens o.holds).few_nodes, filled.same_length), filled.lengths) }

pub loop-next-init : goal.loop-next-init
loop-next-init g c =
    let (tells, went) = c.first_page-next.ensures in record {
      at_moment = λ m e. let (ks, t) = told_here (rw e at tells) in ((went.0 m e).0, (_, ks, t));
      written = went.1;
      room = omega (arith, tells_keeps tells, c.requires);
      store = omega (arith, c.first_page-next.auto.s, c.fill.auto.s ∙ length-take-le _ _ (few g (goal.at.loop-next-init g c).After-from));
    }

pub loop-next-preserved : goal.loop-next-preserved
loop-next-preserved g c =
    let v = c.loop-next.invariant in
    let (within, (z, ls, i)) = v.at_moment c.in-Some.machine c.in-Some.is in
    let (tells, went) = c.fill_page-next.ensures in record {
      at_moment = λ m e. let (ks, t) = told_here (rw e at (tells z ls i)) in ((went.0 m e).0, (_, ks, t));
      written = went.1;
      room = omega (arith, tells_keeps (tells z ls i), v.room);
      store = omega (arith, c.fill_page-next.auto.s, v.store);
    }
