-- One value more, with the space before it.
use Rattle.std.proofs.Common.{arith, add-one, get_or, pos}
use mir.Syntax.{w32}
use mir.ValLaws.{to_z-of_z}
use borrow.Author.Rules.{rules}
use Rattle.node_text.proofs.PutLaws.{puts_more}
use Rattle.node_text.proofs.NumberLengths.{few_bytes}
use Rattle.trace_lines.proofs.LineParts.{values_more}
use Rattle.trace_lines.proofs.put_values.Goals as goal

pub number-requires : goal.number-requires
number-requires c =
    let n = get_or c.args.s.now c.loop-n.n-index (pos 0) in
    let i = c.loop-n.invariant in
    rw (to_z-of_z w32 n (search rules)) (omega (arith, i.0.keeps, i.1, few_bytes n (search rules)))

pub loop-n-preserved : goal.loop-n-preserved
loop-n-preserved c =
    let n = get_or c.args.s.now c.loop-n.n-index (pos 0) in
    let i = c.loop-n.invariant in
    let w = rw (to_z-of_z w32 n (search rules)) at c.number.ensures in (
      rw (add-one c.loop-n.n-index, values_more c.args.s.now c.loop-n.n-index c.loop-n-test.true) (puts_more (puts_more i.0 c.byte.ensures) w),
      omega (arith, i.1, w.put.next, few_bytes n (search rules)),
    )
