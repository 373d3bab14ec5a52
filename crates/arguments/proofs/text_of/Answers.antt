-- The digits have room, and stand at the start of it.
use Rattle.std.proofs.Common.{arith, sym}
use lib.Seq.{length-take-le}
use Rattle.node_text.proofs.NumberLengths.{few_digits}
use Rattle.arguments.proofs.Words.{put_start}
use Rattle.arguments.proofs.text_of.Goals as goal

pub decimal-requires : goal.decimal-requires
decimal-requires c = omega (arith, few_digits c.from.result (omega arith))

pub slice_bounds-result-end : goal.slice_bounds-result-end
slice_bounds-result-end c =
    let p = c.decimal.ensures in
    sym (length-take-le _ _ (omega (arith, few_digits c.from.result (omega arith), p.put.next, p.keeps)))

pub returns : goal.returns
returns c = rw (← c.from.ensures) (put_start c.decimal.ensures.put (omega (arith, few_digits c.from.result (omega arith))))
