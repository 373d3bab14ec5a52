-- `machine::seek` meets its contract: the operand is a declared location and is read, or an integer, or the search goes down to it.
use Prim.Native.Nat.{ℕ, ◌≤◌, ◌<◌}
use native.Mathlib.Nat.{lt_of_lt_of_le}
use mathlib.Core.Path.{◌≡◌, refl, sym, ap, ◌∙◌}
use mathlib.Core.List.{List}
use lib.IntN.{ℤ}
use lib.ListN.{length}
use mir.Syntax.{w32}
use mir.ValLaws.{to_z-of_z}
use borrow.Author.Rules.{rules}
use Rattle.l1.specs.Syntax.{int, ty_int}
use Rattle.l1.specs.Store.{lookup}
use Rattle.l1.specs.Typing.{◌⊢◌∶◌}
use Rattle.stored.specs.Layout.{kind, arg}
use Rattle.stored.specs.Reader.{tree_at}
use Rattle.stored.specs.Refusals.{locations, count, env}
use Rattle.routine.specs.declared.Form.TheVariants.{Integer, Deref}
use Rattle.routine.specs.Forms.{form_of}
use Rattle.routine.specs.Open.{Opened}
use Rattle.machine.specs.Acts.{went_down, read_there}
use Rattle.machine.specs.declared.state.Work.TheVariants as w
use Rattle.machine.proofs.NodeActs.{below, gone_to, load_leaf, load_node, busy_int, no_deref_form, deref_tree, deref_below}
use Rattle.machine.proofs.acts.seek.Goals as goal

-- the location of an operand that is a dereference lies in the store
in_store : {b : List ℕ} {i l : ℕ} (s : List ℤ) → Opened b → i < count b → locations b ≤ length s → env b ⊢ tree_at b i ∶ ty_int
    → form_of (kind b i) ≡ Deref → l ≡ arg b i → l < length s
in_store s ok lt covered typed is location = below location (lt_of_lt_of_le (deref_below ok lt is typed) covered)

not_both : Integer ≡ Deref → ⊥
not_both e = cc

pub bounds-s-l : goal.bounds-s-l
bounds-s-l c =
    in_store c.args.s.now c.form.ensures.opened c.requires.0 c.requires.1 c.requires.2 (sym c.form.ensures.is ∙ c.in-Deref.is) (c.from-l.ensures ∙ c.arg.ensures.is)

pub returns-in-Deref : goal.returns-in-Deref
returns-in-Deref c =
    let is = sym c.form.ensures.is ∙ c.in-Deref.is in
    let location = c.from-l.ensures ∙ c.arg.ensures.is in
    let (work, act, rule) = c.comes_to.ensures in
    read_there {l = c.from-l.result}
    (deref_tree c.form.ensures.opened c.requires.0 is location)
    (in_store c.args.s.now c.form.ensures.opened c.requires.0 c.requires.1 c.requires.2 is location)
    (work ∙ ap w.Int (to_z-of_z w32 (lookup c.args.s.now c.from-l.result) (search rules)))
    act
    rule

pub returns-in-Integer : goal.returns-in-Integer
returns-in-Integer c =
    let is = sym c.form.ensures.is ∙ c.in-Integer.is in
    let whole = to_z-of_z w32 c.integer.result (search rules) in
    let other = no_deref_form c.form.ensures.opened c.requires.0 (λ deref. not_both (sym is ∙ deref)) in
    went_down other
    (gone_to (load_leaf c.form.ensures.opened c.requires.0 is {y = w.Int _} (ap int (whole ∙ c.integer.ensures.is)) tt refl) c.comes_to-in-Integer.ensures)

pub returns-in_default : goal.returns-in_default
returns-in_default c =
    let (lt, covered, typed) = c.requires in
    let ok = c.form.ensures.opened in
    let busy = busy_int ok lt typed (λ is. c.in_default.not-Integer (c.form.ensures.is ∙ is)) in
    let other = no_deref_form ok lt (λ is. c.in_default.not-Deref (c.form.ensures.is ∙ is)) in
    went_down other (gone_to (load_node ok lt refl busy) c.comes_to-in_default.ensures)
