-- At the text's end both counts are those of the whole text.
use Rattle.std.proofs.lemmas.List.{take_all}
use Rattle.text_limits.proofs.Counting.{counts}
use Rattle.text_limits.proofs.nodes_of.Goals as goal

pub returns : goal.returns
returns c =
    let z = take_all c.loop-b.b-index c.args.t.now c.loop-b-test.false in
    counts c.args.t.now (rw z at c.loop-b.invariant.0) (rw z at c.loop-b.invariant.1) c.saturating_sub.ensures
