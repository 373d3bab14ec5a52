-- The body, the loop to the right of it, and the branch that is skip.
use Rattle.std.proofs.Common.{arith, length-append}
use Rattle.node_text.proofs.PutLaws.{puts_more}
use Rattle.moment_text.proofs.ClosingPieces.{again_pieces, again_length}
use Rattle.moment_text.proofs.put_again.Goals as goal

pub put_tree-requires : goal.put_tree-requires
put_tree-requires c =
    let q = c.second.ensures.is in
    let l = again_length c.args.row.now c.args.i q in
    (omega (arith, q, c.requires.0.1), omega (arith, l, c.requires.1, c.text.ensures.keeps, c.text.ensures.put.next))

pub put_right-requires : goal.put_right-requires
put_right-requires c =
    let d = puts_more c.text.ensures c.put_tree.ensures in
    let l = again_length c.args.row.now c.args.i c.second.ensures.is in
    (c.requires.0.0, simp length-append (omega (arith, l, c.requires.1, d.keeps, simp length-append at d.put.next)))

pub text-requires-2 : goal.text-requires-2
text-requires-2 c =
    let d = puts_more (puts_more c.text.ensures c.put_tree.ensures) c.put_right.ensures in
    let l = again_length c.args.row.now c.args.i c.second.ensures.is in
    omega (arith, l, c.requires.1, d.keeps, simp length-append at d.put.next)

pub returns : goal.returns
returns c =
    rw (again_pieces c.args.row.now c.args.i c.second.ensures.is)
    (puts_more (puts_more (puts_more c.text.ensures c.put_tree.ensures) c.put_right.ensures) c.text-2.ensures)
