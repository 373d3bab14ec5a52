-- One byte more is put.
use Rattle.std.proofs.Common.{arith, add-one, refl}
use Rattle.std.proofs.Math.Seq.{take-suc}
use Rattle.node_text.proofs.PutLaws.{put_more}
use Rattle.node_text.proofs.Page.text.Goals as goal

pub loop-j-preserved : goal.loop-j-preserved
loop-j-preserved c =
    rw (add-one c.loop-j.j, take-suc c.args.s.now c.loop-j.j 0 c.loop-j-test.true) (put_more c.loop-j.invariant (record { held = refl; next = omega arith }))
