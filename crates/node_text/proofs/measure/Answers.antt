-- The table is one node longer.
use Rattle.std.proofs.Common.{arith, ◌∙◌}
use Rattle.std.proofs.Math.ListN.{length-set}
use Rattle.std.proofs.Math.Seq.{get_or-set_other}
use Rattle.node_text.proofs.TextLengths.{length_fits, lengths_more}
use Rattle.node_text.proofs.measure.Goals as goal

pub loop-i-preserved : goal.loop-i-preserved
loop-i-preserved c =
    let f = c.loop-i.invariant in let row = c.args.row.now in let table = c.loop-i.lengths in let i = c.loop-i.i in
    record {
      lengths =
          lengths_more row table f.lengths (omega (arith, f.same_length)) c.node_length.ensures.0
          (length_fits c.nodes-i-end.ensures.opened (omega arith) c.nodes-i-end.ensures.bytes);
      rest = λ j l. get_or-set_other table i j _ 0 (omega arith) ∙ f.rest j (omega arith);
      same_length = length-set table i _ ∙ f.same_length;
    }
