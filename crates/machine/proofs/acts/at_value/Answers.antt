-- `machine::at_value` meets its contract: by the place on top, the value goes into its rule, or the search goes on to the right operand.
use mathlib.Core.Path.{refl, sym, ap, ◌∙◌}
use mir.Syntax.{w32}
use mir.ValLaws.{to_z-of_z}
use borrow.Author.Rules.{rules}
use Rattle.machine.specs.declared.state.Place.TheVariants as p
use Rattle.machine.proofs.NodeActs.{gone_by, sought_by}
use Rattle.machine.proofs.ValueActs.{in_place, across, adds, compares, chooses_true, chooses_false, repeats, leaves, stores, goes_on}
use Rattle.machine.proofs.acts.at_value.Goals as goal

pub returns-in-PlusLeft : goal.returns-in-PlusLeft
returns-in-PlusLeft c =
    let whole = to_z-of_z w32 c.number.result (search rules) in
    in_place c.args.row.now c.args.x c.in-PlusLeft.is c.requires
    (λ v. across c.second.ensures.opened v refl refl tt (sought_by c.second.ensures.is (ap (p.PlusRight c.in-PlusLeft.i) (whole ∙ c.number.ensures)) c.seek.ensures))

pub returns-in-GeqLeft : goal.returns-in-GeqLeft
returns-in-GeqLeft c =
    let whole = to_z-of_z w32 c.number-in-GeqLeft.result (search rules) in
    in_place c.args.row.now c.args.x c.in-GeqLeft.is c.requires
    (λ v.
    across c.second-in-GeqLeft.ensures.opened v refl refl tt
    (sought_by
    c.second-in-GeqLeft.ensures.is
    (ap (p.GeqRight c.in-GeqLeft.i) (whole ∙ c.number-in-GeqLeft.ensures))
    c.seek-in-GeqLeft.ensures))

pub returns-in-PlusRight : goal.returns-in-PlusRight
returns-in-PlusRight c =
    let left = to_z-of_z w32 c.in-PlusRight.l (search rules) in
    let right = to_z-of_z w32 c.number-in-PlusRight.result (search rules) in
    in_place c.args.row.now c.args.x c.in-PlusRight.is c.requires (λ v. adds v left (right ∙ c.number-in-PlusRight.ensures) c.plus_at.ensures)

pub returns-in-GeqRight : goal.returns-in-GeqRight
returns-in-GeqRight c =
    let left = to_z-of_z w32 c.in-GeqRight.l (search rules) in
    let right = to_z-of_z w32 c.number-in-GeqRight.result (search rules) in
    in_place c.args.row.now c.args.x c.in-GeqRight.is c.requires
    (λ v. compares v left (right ∙ c.number-in-GeqRight.ensures) c.geq.ensures c.comes_to.ensures)

pub returns-then-truth : goal.returns-then-truth
returns-then-truth c =
    in_place c.args.row.now c.args.x c.in-Test.is c.requires
    (λ v. chooses_true v (sym c.truth.ensures ∙ c.if-truth.true) (gone_by c.second-then-truth.ensures.is refl c.leap.ensures))

pub returns-else-truth : goal.returns-else-truth
returns-else-truth c =
    in_place c.args.row.now c.args.x c.in-Test.is c.requires
    (λ v. chooses_false v (sym c.truth.ensures ∙ c.if-truth.false) (gone_by c.third.ensures.is refl c.leap-else-truth.ensures))

pub returns-then-truth-2 : goal.returns-then-truth-2
returns-then-truth-2 c =
    in_place c.args.row.now c.args.x c.in-Again.is c.requires
    (λ v. repeats c.second-then-truth-2.ensures.opened v (sym c.truth-in-Again.ensures ∙ c.if-truth-2.true) (gone_by c.second-then-truth-2.ensures.is refl c.down.ensures))

pub returns-else-truth-2 : goal.returns-else-truth-2
returns-else-truth-2 c =
    in_place c.args.row.now c.args.x c.in-Again.is c.requires
    (λ v. leaves v (sym c.truth-in-Again.ensures ∙ c.if-truth-2.false) c.comes_to-else-truth-2.ensures)

pub returns-in-Store : goal.returns-in-Store
returns-in-Store c =
    let whole = to_z-of_z w32 c.number-v.result (search rules) in
    in_place c.args.row.now c.args.x c.in-Store.is c.requires
    (λ v. stores v c.requires.2 (whole ∙ c.number-v.ensures) c.comes_to-in-Store.ensures)

pub returns-in-First : goal.returns-in-First
returns-in-First c = in_place c.args.row.now c.args.x c.in-First.is c.requires (λ v. goes_on v c.leap-in-First.ensures)
