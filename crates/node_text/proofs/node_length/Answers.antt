-- Form by form: the table holds the lengths of the children's texts.
use Rattle.std.proofs.Common.{arith, sym, ap, ◌∙◌, length, length-append}
use mir.Syntax.{w32}
use mir.Facts.{to_z-of_z}
use Rattle.l1.specs.Text.{text}
use Rattle.node_text.proofs.TextForms.{form_text, children}
use Rattle.node_text.proofs.TextLengths.{held}
use Rattle.node_text.proofs.node_length.Goals as goal

pub two_lengths-requires : goal.two_lengths-requires
two_lengths-requires c = let (h, room, table) = c.requires in let o = c.form.ensures.opened in let j = children o h (sym c.in-Plus.ensures.is) in (h, room, table, j.0, j.1)

pub two_lengths-requires-in-Geq : goal.two_lengths-requires-in-Geq
two_lengths-requires-in-Geq c = let (h, room, table) = c.requires in let o = c.form.ensures.opened in let j = children o h (sym c.in-Geq.ensures.is) in (h, room, table, j.0, j.1)

pub two_lengths-t-requires : goal.two_lengths-t-requires
two_lengths-t-requires c = let (h, room, table) = c.requires in let o = c.form.ensures.opened in let j = children o h (sym c.in-If.ensures.is) in (h, room, table, j.0, j.1)

pub length_in-requires : goal.length_in-requires
length_in-requires c = omega (arith, c.third.ensures.is, (children c.form.ensures.opened c.requires.0 (sym c.in-If.ensures.is)).2, c.requires)

pub length_in-requires-in-Assign : goal.length_in-requires-in-Assign
length_in-requires-in-Assign c = omega (arith, c.first.ensures.is, children c.form.ensures.opened c.requires.0 (sym c.in-Assign.ensures.is), c.requires)

pub two_lengths-requires-in-Seq : goal.two_lengths-requires-in-Seq
two_lengths-requires-in-Seq c = let (h, room, table) = c.requires in let o = c.form.ensures.opened in let j = children o h (sym c.in-Seq.ensures.is) in (h, room, table, j.0, j.1)

pub two_lengths-requires-in-While : goal.two_lengths-requires-in-While
two_lengths-requires-in-While c = let (h, room, table) = c.requires in let o = c.form.ensures.opened in let j = children o h (sym c.in-While.ensures.is) in (h, room, table, j.0, j.1)

pub returns-in-Integer : goal.returns-in-Integer
unfolding text
returns-in-Integer c =
    let e = to_z-of_z {w = w32} (record { sfits = c.integer.type_inv }) ∙ c.integer.ensures.is in
    rw (form_text c.form.ensures.opened c.requires.0 (sym c.in-Integer.ensures.is)) (omega (arith, rw e at c.number_width.ensures))

pub returns-in-Boolean : goal.returns-in-Boolean
unfolding text
returns-in-Boolean c =
    rw (form_text c.form.ensures.opened c.requires.0 (sym c.in-Boolean.ensures.is)) (omega (arith, rw c.arg.ensures.is at c.truth_width.ensures))

pub returns-in-Plus : goal.returns-in-Plus
unfolding text
returns-in-Plus c =
    let e = form_text c.form.ensures.opened c.requires.0 (sym c.in-Plus.ensures.is) in
    omega (arith, simp length-append at (ap length e), c.two_lengths.ensures)

pub returns-in-Geq : goal.returns-in-Geq
unfolding text
returns-in-Geq c =
    let e = form_text c.form.ensures.opened c.requires.0 (sym c.in-Geq.ensures.is) in
    omega (arith, simp length-append at (ap length e), c.two_lengths-in-Geq.ensures)

pub returns-in-If : goal.returns-in-If
unfolding text
returns-in-If c =
    let e = form_text c.form.ensures.opened c.requires.0 (sym c.in-If.ensures.is) in let before = (children c.form.ensures.opened c.requires.0 (sym c.in-If.ensures.is)).2 in
    let third = held _ c.args.lengths.now c.requires.2 c.length_in.ensures.0 c.third.ensures.is before in
    omega (arith, simp length-append at (ap length e), c.two_lengths-t.ensures, third, (c.requires.2 _ before).1)

pub returns-in-Assign : goal.returns-in-Assign
unfolding text
returns-in-Assign c =
    let e = form_text c.form.ensures.opened c.requires.0 (sym c.in-Assign.ensures.is) in let before = children c.form.ensures.opened c.requires.0 (sym c.in-Assign.ensures.is) in
    let first = held _ c.args.lengths.now c.requires.2 c.length_in-in-Assign.ensures.0 c.first.ensures.is before in
    let digits = rw (c.from.ensures ∙ c.arg-in-Assign.ensures.is) at c.width-w.ensures in
    omega (arith, simp length-append at (ap length e), digits, first, (c.requires.2 _ before).1)

pub returns-in-Deref : goal.returns-in-Deref
unfolding text
returns-in-Deref c =
    rw (form_text c.form.ensures.opened c.requires.0 (sym c.in-Deref.ensures.is)) (omega (arith, rw (c.from-in-Deref.ensures ∙ c.arg-in-Deref.ensures.is) at c.width.ensures))

pub returns-in-Skip : goal.returns-in-Skip
unfolding text
returns-in-Skip c = rw (form_text c.form.ensures.opened c.requires.0 (sym c.in-Skip.ensures.is)) (omega arith)

pub returns-in-Seq : goal.returns-in-Seq
unfolding text
returns-in-Seq c =
    let e = form_text c.form.ensures.opened c.requires.0 (sym c.in-Seq.ensures.is) in
    omega (arith, simp length-append at (ap length e), c.two_lengths-in-Seq.ensures)

pub returns-in-While : goal.returns-in-While
unfolding text
returns-in-While c =
    let e = form_text c.form.ensures.opened c.requires.0 (sym c.in-While.ensures.is) in
    omega (arith, simp length-append at (ap length e), c.two_lengths-in-While.ensures)

pub returns-in-Unknown : goal.returns-in-Unknown
returns-in-Unknown c = absurd (children c.form.ensures.opened c.requires.0 (sym c.in-Unknown.ensures.is))
