-- `machine::go_on` meets its contract. What the loop keeps and its ways out stand in `Loops`.
use Prim.Native.Nat.{◌+◌, ◌≤◌}
use native.Mathlib.Omega.{arith}
use mathlib.Core.Path.{◌≡◌, ap, ◌∙◌}
use lib.ListN.{set}
use mir.Syntax.{w32}
use mir.ValLaws.{to_z-of_z}
use borrow.Author.Rules.{rules}
use Rattle.machine.specs.State.{takes_of}
use Rattle.machine.specs.Acts.{written}
use Rattle.machine.proofs.ValueActs.{is_value}
use Rattle.machine.proofs.Turns.{NoOverflow, placed}
use Rattle.machine.proofs.Loops.{ActAt, may_step, out_at_value, out_at_overflow, out_at_fuel, goes_on, less_left}
use Rattle.machine.proofs.run.go_on.Goals.{Joined-machine, Joined-next, After-step-next, in-Node, in_default-2, in-Push+else-spent, in-Rest+else-spent-2, in-Write+else-spent-3}
use Rattle.machine.proofs.run.go_on.Goals as goal

-- the places below the act with those that the work takes are all that are there
parts : (c : Joined-machine) → c.match-machine.at + takes_of c.loop-machine.machine.work ≡ c.loop-machine.pending.height
parts c =
    elim c.match-machine.branch [
      | in-Node w ↦ omega (arith, ap takes_of w.in-Node.is)
      | in_default-2 w ↦ omega (arith, is_value c.loop-machine.machine.work w.in_default-2.not-Node)
    ]

act : (c : After-step-next) → c.match-machine.at + takes_of c.loop-machine.machine.work ≡ c.loop-machine.pending.height
    → ActAt c.args.row.now c.loop-machine.s c.loop-machine.pending c.loop-machine.machine c.match-machine.at c.step-next.result
act c q = record { parts = q; stepped = c.step-next.ensures }

-- an act that is made good: the places and the store after it are those of the act, within the limit
made_good : (c : Joined-next) → (c.match-next.pending ≡ placed c.args.row.now c.loop-machine.pending.frames c.match-machine.at c.step-next.result.act)
    × (c.match-next.s ≡ written c.loop-machine.s c.step-next.result.act) × (c.step-next.result.to.steps ≤ c.args.limit) × NoOverflow c.step-next.result.act
made_good c =
    elim c.match-next.branch [
      | in-Push+else-spent w ↦ let e = w.in-Push.is in (rw e w.pending-is, rw e w.s-is, omega arith, λ i q. cc)
      | in-Rest+else-spent-2 w ↦ let e = w.in-Rest.is in (rw e w.pending-is, rw e w.s-is, omega arith, λ i q. cc)
      | in-Write+else-spent-3 w ↦
          let e = w.in-Write.is in
          let whole = to_z-of_z w32 w.in-Write.n (search rules) in
          (rw e w.pending-is, rw e (w.s-is ∙ ap (set c.loop-machine.s w.in-Write.l) whole), omega arith, λ i q. cc)
    ]

pub loop-machine-init : goal.loop-machine-init
loop-machine-init c = record { moment = λ z i. i; low = c.requires.1 }

pub step-next-requires-clause-stands : goal.step-next-requires-clause-stands
step-next-requires-clause-stands c =
    (may_step c.loop-machine.invariant c.requires c.match-machine.at (parts (goal.at.step-next-requires-clause-stands c).Joined-machine)).0

pub step-next-requires-clause-steps_bound : goal.step-next-requires-clause-steps_bound
step-next-requires-clause-steps_bound c =
    (may_step c.loop-machine.invariant c.requires c.match-machine.at (parts (goal.at.step-next-requires-clause-steps_bound c).Joined-machine)).1

pub loop-machine-smaller : goal.loop-machine-smaller
loop-machine-smaller c =
    let (placed, stored, low, other) = made_good (goal.at.loop-machine-smaller c).Joined-next in
    less_left c.loop-machine.invariant (act (goal.at.loop-machine-smaller c).After-step-next (parts (goal.at.loop-machine-smaller c).Joined-machine)) other low placed c.requires

pub loop-machine-preserved : goal.loop-machine-preserved
loop-machine-preserved c =
    let (placed, stored, low, other) = made_good (goal.at.loop-machine-preserved c).Joined-next in
    goes_on c.loop-machine.invariant (act (goal.at.loop-machine-preserved c).After-step-next (parts (goal.at.loop-machine-preserved c).Joined-machine)) other low stored placed

pub returns-in_default : goal.returns-in_default
returns-in_default c =
    let one = is_value c.loop-machine.machine.work c.in_default.not-Node in
    out_at_value c.loop-machine.invariant c.end_of-ending.ensures (omega arith)

pub returns-in-Over : goal.returns-in-Over
returns-in-Over c =
    out_at_overflow c.loop-machine.invariant (act (goal.at.returns-in-Over c).After-step-next (parts (goal.at.returns-in-Over c).Joined-machine)) c.in-Over.is

pub returns-then-spent : goal.returns-then-spent
returns-then-spent c =
    out_at_fuel c.loop-machine.invariant (act (goal.at.returns-then-spent c).After-step-next (parts (goal.at.returns-then-spent c).Joined-machine)) c.if-spent.true

pub returns-then-spent-2 : goal.returns-then-spent-2
returns-then-spent-2 c =
    out_at_fuel c.loop-machine.invariant (act (goal.at.returns-then-spent-2 c).After-step-next (parts (goal.at.returns-then-spent-2 c).Joined-machine)) c.if-spent-2.true

pub returns-then-spent-3 : goal.returns-then-spent-3
returns-then-spent-3 c =
    out_at_fuel c.loop-machine.invariant (act (goal.at.returns-then-spent-3 c).After-step-next (parts (goal.at.returns-then-spent-3 c).Joined-machine)) c.if-spent-3.true
