-- One entry more: the level of the next bracket outward.
use Rattle.std.proofs.Common.{arith}
use Rattle.std.proofs.Math.ListN.{length-set}
use Rattle.form.proofs.Tables.{filling_on, filling_end}
use Rattle.form.proofs.Table.refill.Goals as goal

pub loop-j-preserved : goal.loop-j-preserved
loop-j-preserved g c =
    let v = c.loop-j.invariant in
    (filling_on _ v.0 (omega arith) c.outer-rest.ensures c.place_at.ensures, simp length-set v.1, v.2)

pub returns : goal.returns
returns g c = let v = c.loop-j.invariant in (filling_end v.0 c.loop-j-test.false v.1, v.2)
