-- One place more is closed, the one below j.
use Rattle.std.proofs.Common.{arith, ◌≡◌, ◌-◌, suc}
use Rattle.moment_text.proofs.ClosedPlaces.{one_closed}
use Rattle.moment_text.proofs.put_closes.Goals as goal

pub loop-j-preserved : goal.loop-j-preserved
loop-j-preserved c =
    let below : c.loop-j.j ≡ suc (c.loop-j.j - 1) = omega (arith, c.loop-j-test.true) in
    one_closed c.loop-j.invariant (c.loop-j.j - 1) below c.put_closing.ensures
