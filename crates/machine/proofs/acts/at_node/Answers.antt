-- `machine::at_node` meets its contract: at each form the search goes down to the first part, but a loop unfolds and a dereference reads.
use Prim.Native.Nat.{ℕ, ◌≤◌, ◌<◌}
use native.Mathlib.Nat.{lt_trans, lt_of_lt_of_le}
use native.Mathlib.Omega.{arith}
use mathlib.Core.Path.{◌≡◌, refl, sym, ap, ◌∙◌}
use mathlib.Core.List.{List}
use lib.IntN.{ℤ}
use lib.ListN.{length}
use mir.Syntax.{w32}
use mir.ValLaws.{to_z-of_z}
use borrow.Author.Rules.{rules}
use Rattle.l1.specs.Syntax.{Ty}
use Rattle.l1.specs.Store.{lookup}
use Rattle.l1.specs.Typing.{◌⊢◌∶◌}
use Rattle.stored.specs.Layout.{kind, arg, child2}
use Rattle.stored.specs.Reader.{tree_at}
use Rattle.stored.specs.Refusals.{locations, count, env}
use Rattle.routine.specs.declared.Form.TheVariants.{Deref}
use Rattle.routine.specs.Forms.{form_of}
use Rattle.routine.specs.Open.{Opened}
use Rattle.machine.specs.declared.state.Act.TheVariants as a
use Rattle.machine.specs.declared.state.Place.TheVariants as p
use Rattle.machine.proofs.NodeActs.{no_deref_bool, no_deref_unit, test_typed, kids_of, down, seeks, operand_typed, typed_as, sought_by, unfolds, derefs, deref_below, came_to, gone_by, below}
use Rattle.machine.proofs.acts.at_node.Goals as goal

-- a part of a node is a node
child : {i j k n : ℕ} → i < n → j ≡ k → k < i → j < n
child lt e h = below e (lt_trans h lt)

-- a location that is dereferenced lies in the store
in_store : {b : List ℕ} {i l : ℕ} (s : List ℤ) → Opened b → i < count b → locations b ≤ length s → ((T : Ty) × (env b ⊢ tree_at b i ∶ T))
    → form_of (kind b i) ≡ Deref → l ≡ arg b i → l < length s
in_store s ok lt covered typed is location = below location (lt_of_lt_of_le (deref_below ok lt is typed.1) covered)

-- ---- the part to go to is a node of the routine

pub seek-requires : goal.seek-requires
seek-requires c =
    let (lt, busy, covered, typed) = c.requires in
    let ok = c.form.ensures.opened in
    let is = sym c.form.ensures.is ∙ c.in-Plus.is in
    let first = c.first.ensures.is in
    (child lt first (kids_of ok lt is).0, covered, operand_typed ok lt is (p.PlusLeft c.args.i) first refl typed)

pub seek-requires-in-Geq : goal.seek-requires-in-Geq
seek-requires-in-Geq c =
    let (lt, busy, covered, typed) = c.requires in
    let ok = c.form.ensures.opened in
    let is = sym c.form.ensures.is ∙ c.in-Geq.is in
    let first = c.first-in-Geq.ensures.is in
    (child lt first (kids_of ok lt is).0, covered, operand_typed ok lt is (p.GeqLeft c.args.i) first refl typed)

pub down-requires : goal.down-requires
down-requires c =
    let (lt, busy, covered, typed) = c.requires in
    let ok = c.form.ensures.opened in
    (child lt c.first-in-If.ensures.is (kids_of ok lt (sym c.form.ensures.is ∙ c.in-If.is)).0)

pub seek-requires-in-Assign : goal.seek-requires-in-Assign
seek-requires-in-Assign c =
    let (lt, busy, covered, typed) = c.requires in
    let ok = c.form.ensures.opened in
    let is = sym c.form.ensures.is ∙ c.in-Assign.is in
    let first = c.first-in-Assign.ensures.is in
    (child lt first (kids_of ok lt is), covered, operand_typed ok lt is (p.Store (arg c.args.row.now c.args.i)) first refl typed)

pub down-requires-in-Seq : goal.down-requires-in-Seq
down-requires-in-Seq c =
    let (lt, busy, covered, typed) = c.requires in
    let ok = c.form.ensures.opened in
    (child lt c.first-in-Seq.ensures.is (kids_of ok lt (sym c.form.ensures.is ∙ c.in-Seq.is)).0)

pub down-requires-in-While : goal.down-requires-in-While
down-requires-in-While c =
    let (lt, busy, covered, typed) = c.requires in
    let ok = c.form.ensures.opened in
    (child lt c.first-in-While.ensures.is (kids_of ok lt (sym c.form.ensures.is ∙ c.in-While.is)).0)

pub bounds-s-l : goal.bounds-s-l
bounds-s-l c =
    let (lt, busy, covered, typed) = c.requires in
    let ok = c.form.ensures.opened in
    in_store c.args.s.now ok lt covered typed (sym c.form.ensures.is ∙ c.in-Deref.is) (c.from-l.ensures ∙ c.arg-in-Deref.ensures.is)

-- ---- what each comes to

pub returns-in-Plus : goal.returns-in-Plus
returns-in-Plus c =
    let (lt, busy, covered, typed) = c.requires in
    let ok = c.form.ensures.opened in
    let is = sym c.form.ensures.is ∙ c.in-Plus.is in
    seeks ok lt is refl (lt, child lt refl (kids_of ok lt is).1) (omega arith) (sought_by c.first.ensures.is refl c.seek.ensures)

pub returns-in-Geq : goal.returns-in-Geq
returns-in-Geq c =
    let (lt, busy, covered, typed) = c.requires in
    let ok = c.form.ensures.opened in
    let is = sym c.form.ensures.is ∙ c.in-Geq.is in
    seeks ok lt is refl (lt, child lt refl (kids_of ok lt is).1) (omega arith) (sought_by c.first-in-Geq.ensures.is refl c.seek-in-Geq.ensures)

pub returns-in-If : goal.returns-in-If
returns-in-If c =
    let (lt, busy, covered, typed) = c.requires in
    let ok = c.form.ensures.opened in
    let is = sym c.form.ensures.is ∙ c.in-If.is in
    let kids = kids_of ok lt is in
    let other = no_deref_bool (operand_typed ok lt is (p.Test c.args.i) refl refl typed) in
    down ok lt is refl (lt, child lt refl kids.1, child lt refl kids.2) (omega arith) other (gone_by c.first-in-If.ensures.is refl c.down.ensures)

pub returns-in-Assign : goal.returns-in-Assign
returns-in-Assign c =
    let (lt, busy, covered, typed) = c.requires in
    let ok = c.form.ensures.opened in
    let is = sym c.form.ensures.is ∙ c.in-Assign.is in
    let location = c.from.ensures ∙ c.arg.ensures.is in
    seeks ok lt is refl tt (omega arith) (sought_by c.first-in-Assign.ensures.is (ap p.Store location) c.seek-in-Assign.ensures)

pub returns-in-Seq : goal.returns-in-Seq
returns-in-Seq c =
    let (lt, busy, covered, typed) = c.requires in
    let ok = c.form.ensures.opened in
    let is = sym c.form.ensures.is ∙ c.in-Seq.is in
    let gone = gone_by c.first-in-Seq.ensures.is (ap (λ (j : ℕ). a.Push (p.First j)) c.second.ensures.is) c.down-in-Seq.ensures in
    let other = no_deref_unit (operand_typed ok lt is (p.First (child2 c.args.row.now c.args.i)) refl refl typed) in
    down ok lt is refl (child lt refl (kids_of ok lt is).1) (omega arith) other gone

pub returns-in-While : goal.returns-in-While
returns-in-While c =
    let (lt, busy, covered, typed) = c.requires in
    let ok = c.form.ensures.opened in
    let is = sym c.form.ensures.is ∙ c.in-While.is in
    let other = no_deref_bool (test_typed (typed_as ok lt is typed.1)) in
    unfolds ok lt is refl (child lt refl (kids_of ok lt is).1) other (gone_by c.first-in-While.ensures.is refl c.down-in-While.ensures)

pub returns-in-Deref : goal.returns-in-Deref
returns-in-Deref c =
    let (lt, busy, covered, typed) = c.requires in
    let ok = c.form.ensures.opened in
    let is = sym c.form.ensures.is ∙ c.in-Deref.is in
    let location = c.from-l.ensures ∙ c.arg-in-Deref.ensures.is in
    let whole = to_z-of_z w32 (lookup c.args.s.now c.from-l.result) (search rules) in
    came_to c.comes_to.ensures (derefs ok lt is location (in_store c.args.s.now ok lt covered typed is location) (sym whole))
