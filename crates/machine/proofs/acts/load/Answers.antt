-- `machine::load` meets its contract: a literal is loaded as its value, and any other form as the node.
use mathlib.Core.Path.{refl, sym, ap, ◌∙◌}
use mathlib.Core.Logic.{inl, inr}
use Prim.Native.Nat.{ℕ}
use lib.Dec.{eqb}
use mir.Syntax.{w32}
use mir.Facts.{to_z-of_z}
use Rattle.l1.specs.Syntax.{int, bool}
use Rattle.machine.specs.declared.state.Work.TheVariants as w
use Rattle.machine.proofs.NodeActs.{load_leaf, kids_of}
use Rattle.machine.proofs.acts.load.Goals as goal

pub returns-in-Integer : goal.returns-in-Integer
returns-in-Integer c =
    let whole = to_z-of_z {w = w32} (record { sfits = c.integer.type_inv }) in
    load_leaf c.form.ensures.opened c.requires (sym c.form.ensures.is ∙ c.in-Integer.is) {y = w.Int _} (ap int (whole ∙ c.integer.ensures.is)) tt refl

pub returns-in-Boolean : goal.returns-in-Boolean
returns-in-Boolean c =
    load_leaf c.form.ensures.opened c.requires (sym c.form.ensures.is ∙ c.in-Boolean.is) {y = w.Bool _}
    (ap (λ (k : ℕ). bool (eqb k 1)) c.arg.ensures.is)
    tt
    refl

pub returns-in-Skip : goal.returns-in-Skip
returns-in-Skip c =
    elim c.in-Skip.is [
      | inl is ↦ load_leaf c.form.ensures.opened c.requires (sym c.form.ensures.is ∙ is) {y = w.Skip} refl tt refl
      | inr is ↦ absurd (kids_of c.form.ensures.opened c.requires (sym c.form.ensures.is ∙ is))
    ]
