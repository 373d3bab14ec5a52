-- One value more: the next four bytes, read as a number.
use Rattle.std.proofs.Common.{arith, ◌∙◌}
use Rattle.std.proofs.Math.ListN.{length-set}
use mir.Syntax.{w32}
use mir.Facts.{to_z-of_z}
use Rattle.stored.proofs.ValueLists.{value_set}
use Rattle.routine.proofs.values_at.Goals as goal

pub loop-i-preserved : goal.loop-i-preserved
loop-i-preserved c =
    let value = to_z-of_z {w = w32} (record { sfits = c.signed_at.type_inv }) ∙ c.signed_at.ensures in (
      simp length-set c.loop-i.invariant.0,
      value_set c.args.b.now c.args.at c.loop-i.i c.loop-i.s c.loop-i.invariant.1 _ (omega (arith, c.loop-i.invariant.0, c.loop-i-test.true)) value,
    )
