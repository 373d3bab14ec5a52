-- One place more is opened.
use Rattle.std.proofs.Common.{arith, add-one}
use Rattle.node_text.proofs.PutLaws.{puts_more}
use Rattle.moment_text.proofs.TextAround.{opens_grow}
use Rattle.moment_text.proofs.put_opens.Goals as goal

pub put_opening-requires : goal.put_opening-requires
put_opening-requires c =
    let i = c.loop-j.invariant in let p = c.args.pending.now in
    omega (arith, opens_grow p.frames c.loop-j.j p.height c.loop-j-test.true, i.put.next, i.keeps, c.requires.1)

pub loop-j-preserved : goal.loop-j-preserved
loop-j-preserved c = rw (add-one c.loop-j.j) (puts_more c.loop-j.invariant c.put_opening.ensures)
