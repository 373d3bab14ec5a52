-- `machine::plus_at` meets its contract: a sum in range is a step, and a sum out of range an overflow.
use mathlib.Core.Path.{◌≡◌, refl, sym, ap, ◌∙◌}
use lib.IntN.{ℤ}
use mir.Syntax.{w32}
use mir.Val.{SFits, to_z, of_z}
use mir.ValLaws.{to_z-of_z}
use borrow.Author.Rules.{rules}
use Rattle.std.specs.Prelude.{Option}
use Rattle.sums.specs.Sum.{sum_of}
use Rattle.machine.specs.declared.state.Work.TheVariants as w
use Rattle.machine.proofs.NodeActs.{came_by}
use Rattle.machine.proofs.SumActs.{sums, overflows}
use Rattle.machine.proofs.acts.plus_at.Goals as goal

-- what `add` said of the sum
said : {l v : ℤ} {r t : Option ℤ} → SFits w32 l → SFits w32 v → r ≡ sum_of (to_z w32 (of_z w32 l)) (to_z w32 (of_z w32 v)) → r ≡ t → sum_of l v ≡ t
said {l} {v} f g told e = let p = to_z-of_z w32 l f in let q = to_z-of_z w32 v g in sym (rw (p, q) at told) ∙ e

pub returns-in-Some : goal.returns-in-Some
returns-in-Some c =
    sums _ _ _ (said c.ranges.l c.ranges.v c.add.ensures c.in-Some.is)
    (came_by (ap w.Int (to_z-of_z w32 c.in-Some.z (search rules))) refl c.comes_to.ensures)

pub returns-in-None : goal.returns-in-None
returns-in-None c = overflows _ _ _ (said c.ranges.l c.ranges.v c.add.ensures c.in-None.is) c.comes_to-in-None.ensures
