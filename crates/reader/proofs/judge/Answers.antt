-- Each refusal comes where those before it are not given.
use Rattle.std.proofs.Common.{arith}
use Rattle.reader.proofs.Judging.{found, none_found, no_large, first_50, first_51, first_52, first_5, first_9}
use Rattle.reader.proofs.judge.Goals as goal

pub returns-in-Err : goal.returns-in-Err
returns-in-Err c = first_50 c.in-Err.ensures

pub returns-in-Some : goal.returns-in-Some
returns-in-Some c = let f = c.in_default.ensures in first_51 f (found c.in-Some.ensures f.expr f.shown)

pub returns-in-Some-first_large : goal.returns-in-Some-first_large
returns-in-Some-first_large c =
    let f = c.in_default.ensures in first_52 f (no_large c.in_default-first_large.ensures) (found c.in-Some-first_large.ensures f.expr f.shown)

pub returns-then-nodes_of-gt4096 : goal.returns-then-nodes_of-gt4096
returns-then-nodes_of-gt4096 c =
    let f = c.in_default.ensures in
    first_5 f (no_large c.in_default-first_large.ensures) (none_found c.in_default-first_large-2.ensures)
    (omega (arith, c.if-nodes_of-gt4096.true, c.nodes_of.ensures.nodes f.expr f.shown))

pub returns : goal.returns
returns c =
    first_9 c.in_default.ensures (no_large c.in_default-first_large.ensures) (none_found c.in_default-first_large-2.ensures) c.requires
    (λ e q. omega (arith, c.if-nodes_of-gt4096.false, c.nodes_of.ensures.nodes e q))
