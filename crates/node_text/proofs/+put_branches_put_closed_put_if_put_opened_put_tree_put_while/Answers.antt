-- The pieces of a form's text, one after the other.
use Rattle.std.proofs.Common.{arith, ℕ, List, sym, refl, ap, ◌∙◌, ◌≡◌, ◌+◌, ◌*◌, ◌<◌, ◌++◌, length, length-append}
use mir.Syntax.{w32}
use mir.Facts.{to_z-of_z}
use Rattle.l1.specs.Text.{bytes, location, text}
use Rattle.stored.specs.Layout.{child1, child2}
use Rattle.stored.specs.Refusals.{count}
use Rattle.routine.specs.Open.{IsOpen}
use Rattle.routine.specs.declared.Sizes.{Sizes}
use Rattle.node_text.specs.Pages.{Puts, Fits}
use Rattle.node_text.specs.Texts.{form_at, text_at, form_with, sign_text}
use Rattle.node_text.specs.declared.Page.{Page}
use Rattle.node_text.specs.declared.Sign.{Sign}
use Rattle.node_text.specs.declared.Sign.TheVariants.{Plus, Geq, Seq}
use Rattle.node_text.proofs.PutLaws.{puts_more, page_first, page_rest}
use Rattle.node_text.proofs.TextForms.{form_text, children, two_children, assign_text, two_text, while_text, if_text}
use Rattle.node_text.proofs.+put_branches_put_closed_put_if_put_opened_put_tree_put_while.Goals as goal

-- ---- a node with a bracket, and the branches of a conditional

pub put_closed-returns : goal.put_closed-returns
put_closed-returns t c = puts_more c.put_tree.ensures c.byte.ensures

pub put_branches-returns : goal.put_branches-returns
put_branches-returns t c =
    puts_more (puts_more (puts_more (puts_more c.text.ensures c.put_tree.ensures) c.text-2.ensures) c.put_tree-2.ensures) c.byte.ensures

-- ---- a conditional

pub put_if-text-requires : goal.put_if-text-requires
put_if-text-requires t c =
    let (h, room, e) = c.requires in let o = c.first-test.ensures.opened in
    omega (arith, simp length-append at (ap length (if_text o h refl refl refl e)))

pub put_if-put_tree-requires : goal.put_if-put_tree-requires
put_if-put_tree-requires t c =
    let (h, room, e) = c.requires in let o = c.first-test.ensures.opened in
    let p = c.first-test.ensures.is in let j = children o h e in let l = simp length-append at (ap length (if_text o h p refl refl e)) in
    (omega arith, (omega arith, omega arith))

pub put_if-put_branches-requires : goal.put_if-put_branches-requires
put_if-put_branches-requires t c =
    let (h, room, e) = c.requires in let o = c.first-test.ensures.opened in
    let j = children o h e in let q = c.second.ensures.is in let r = c.third.ensures.is in
    let d = puts_more c.text.ensures c.put_tree.ensures in
    (omega arith, (omega arith, omega arith, page_rest _ d (rw (if_text o h c.first-test.ensures.is q r e) at room)))

pub put_if-returns : goal.put_if-returns
put_if-returns t c =
    let (h, room, e) = c.requires in let o = c.first-test.ensures.opened in
    rw (if_text o h c.first-test.ensures.is c.second.ensures.is c.third.ensures.is e) (puts_more (puts_more c.text.ensures c.put_tree.ensures) c.put_branches.ensures)

-- ---- a loop

pub put_while-text-requires : goal.put_while-text-requires
put_while-text-requires t c =
    let (h, room, e) = c.requires in let o = c.first-test.ensures.opened in
    omega (arith, simp length-append at (ap length (while_text o h refl refl e)))

pub put_while-put_tree-requires : goal.put_while-put_tree-requires
put_while-put_tree-requires t c =
    let (h, room, e) = c.requires in let o = c.first-test.ensures.opened in
    let p = c.first-test.ensures.is in let j = children o h e in let l = simp length-append at (ap length (while_text o h p refl e)) in
    (omega arith, (omega arith, omega arith))

pub put_while-text-requires-2 : goal.put_while-text-requires-2
put_while-text-requires-2 t c =
    let (h, room, e) = c.requires in let o = c.first-test.ensures.opened in
    omega (arith, simp length-append at (ap length (while_text o h c.first-test.ensures.is refl e)))

pub put_while-put_tree-requires-2 : goal.put_while-put_tree-requires-2
put_while-put_tree-requires-2 t c =
    let (h, room, e) = c.requires in let o = c.first-test.ensures.opened in
    let p = c.second.ensures.is in let j = children o h e in
    let l = simp length-append at (ap length (while_text o h c.first-test.ensures.is p e)) in
    (omega arith, (omega arith, omega arith))

pub put_while-text-requires-3 : goal.put_while-text-requires-3
put_while-text-requires-3 t c =
    let (h, room, e) = c.requires in let o = c.first-test.ensures.opened in
    omega (arith, simp length-append at (ap length (while_text o h c.first-test.ensures.is c.second.ensures.is e)))

pub put_while-returns : goal.put_while-returns
put_while-returns t c =
    let (h, room, e) = c.requires in let o = c.first-test.ensures.opened in
    rw (while_text o h c.first-test.ensures.is c.second.ensures.is e)
    (puts_more (puts_more (puts_more (puts_more c.text.ensures c.put_tree.ensures) c.text-2.ensures) c.put_tree-2.ensures) c.text-3.ensures)

-- ---- the whole node: its text by the form that is found

pub put_tree-number-requires : goal.put_tree-number-requires
unfolding text
put_tree-number-requires t c =
    let (h, room) = c.requires in let o = c.form.ensures.opened in
    rw (to_z-of_z {w = w32} (record { sfits = c.integer.type_inv }) ∙ c.integer.ensures.is) (rw (form_text o h (sym c.in-Integer.ensures.is)) at room)

pub put_tree-returns-in-Integer : goal.put_tree-returns-in-Integer
unfolding text
put_tree-returns-in-Integer t c =
    let (h, room) = c.requires in let o = c.form.ensures.opened in
    rw (form_text o h (sym c.in-Integer.ensures.is))
    (rw (to_z-of_z {w = w32} (record { sfits = c.integer.type_inv }) ∙ c.integer.ensures.is) at c.number.ensures)

pub put_tree-truth-requires : goal.put_tree-truth-requires
unfolding text
put_tree-truth-requires t c =
    let (h, room) = c.requires in let o = c.form.ensures.opened in
    rw c.arg.ensures.is (rw (form_text o h (sym c.in-Boolean.ensures.is)) at room)

pub put_tree-returns-in-Boolean : goal.put_tree-returns-in-Boolean
unfolding text
put_tree-returns-in-Boolean t c =
    let (h, room) = c.requires in let o = c.form.ensures.opened in
    rw (form_text o h (sym c.in-Boolean.ensures.is)) (rw c.arg.ensures.is at c.truth.ensures)

pub put_tree-put_deref-requires : goal.put_tree-put_deref-requires
unfolding text
put_tree-put_deref-requires t c =
    let (h, room) = c.requires in let o = c.form.ensures.opened in
    rw (c.from-in-Deref.ensures ∙ c.arg-in-Deref.ensures.is) (rw (form_text o h (sym c.in-Deref.ensures.is)) at room)

pub put_tree-returns-in-Deref : goal.put_tree-returns-in-Deref
unfolding text
put_tree-returns-in-Deref t c =
    let (h, room) = c.requires in let o = c.form.ensures.opened in
    rw (form_text o h (sym c.in-Deref.ensures.is)) (rw (c.from-in-Deref.ensures ∙ c.arg-in-Deref.ensures.is) at c.put_deref.ensures)

pub put_tree-text-requires-in-Skip : goal.put_tree-text-requires-in-Skip
unfolding text
put_tree-text-requires-in-Skip t c = let (h, room) = c.requires in let o = c.form.ensures.opened in rw (form_text o h (sym c.in-Skip.ensures.is)) at room

pub put_tree-returns-in-Skip : goal.put_tree-returns-in-Skip
unfolding text
put_tree-returns-in-Skip t c = let (h, room) = c.requires in let o = c.form.ensures.opened in rw (form_text o h (sym c.in-Skip.ensures.is)) c.text-in-Skip.ensures

pub put_tree-returns-in-Unknown : goal.put_tree-returns-in-Unknown
put_tree-returns-in-Unknown t c = let (h, room) = c.requires in let o = c.form.ensures.opened in absurd (children o h (sym c.in-Unknown.ensures.is))

pub put_tree-put_assigned-requires : goal.put_tree-put_assigned-requires
put_tree-put_assigned-requires t c =
    let (h, room) = c.requires in let o = c.form.ensures.opened in
    let p = bytes "(" ++ location c.from.result ++ bytes " := " in
    page_first c.args.page.now p _ (rw (assign_text o h refl (c.from.ensures ∙ c.arg-in-Assign.ensures.is) (sym c.in-Assign.ensures.is)) at room)

pub put_tree-put_closed-requires-in-Assign : goal.put_tree-put_closed-requires-in-Assign
put_tree-put_closed-requires-in-Assign t c =
    let (h, room) = c.requires in let o = c.form.ensures.opened in let e = sym c.in-Assign.ensures.is in let p = c.first-in-Assign.ensures.is in
    let j = children o h e in let last = text_at c.args.row.now c.first-in-Assign.result ++ bytes ")" in
    (omega arith, (omega arith, page_rest last c.put_assigned.ensures (rw (assign_text o h p (c.from.ensures ∙ c.arg-in-Assign.ensures.is) e) at room)))

pub put_tree-returns-in-Assign : goal.put_tree-returns-in-Assign
put_tree-returns-in-Assign t c =
    let (h, room) = c.requires in let o = c.form.ensures.opened in
    rw (assign_text o h c.first-in-Assign.ensures.is (c.from.ensures ∙ c.arg-in-Assign.ensures.is) (sym c.in-Assign.ensures.is))
    (puts_more c.put_assigned.ensures c.put_closed-in-Assign.ensures)

-- two parts with a sign between them: what is asked of each piece, and all of them
module _ {b : List ℕ} {z : Sizes} (o : IsOpen b z) {i : ℕ} (h : i < count b) (p : Page) (room : Fits p (text_at b i)) (s : Sign) (e : form_at b i ≡ form_with s) {x : ℕ}
    (a : x ≡ child1 b i) where
  opens_two : {t : ℕ} → 3 * i + 1 ≡ t → (3 * x + 2 < t) × ((x < count b) × Fits p (bytes "(" ++ text_at b x))
  opens_two m =
      let j = two_children o h s e in let l = simp length-append at (ap length (two_text o h a refl s e)) in
      (omega arith, (omega arith, simp length-append (omega arith)))

  room_for_sign : {q : Page} → Puts p (bytes "(" ++ text_at b x) q → Fits q (sign_text s)
  room_for_sign d =
      let l = simp length-append at (ap length (two_text o h a refl s e)) in
      omega (arith, simp length-append at d.put.next)

  module _ {y : ℕ} (k : y ≡ child2 b i) where
    closes_two : {q : Page} {t : ℕ} → 3 * i + 1 ≡ t → Puts p (bytes "(" ++ text_at b x ++ sign_text s) q
        → (3 * y + 2 < t) × ((y < count b) × Fits q (text_at b y ++ bytes ")"))
    closes_two m d =
        let j = two_children o h s e in
        (omega arith, (omega arith, page_rest _ d (rw (two_text o h a k s e) at room)))

    both : {q : Page} → Puts p (bytes "(" ++ text_at b x ++ sign_text s ++ (text_at b y ++ bytes ")")) q → Puts p (text_at b i) q
    both d = rw (two_text o h a k s e) d

pub put_tree-put_opened-requires : goal.put_tree-put_opened-requires
put_tree-put_opened-requires t c =
    let (h, room) = c.requires in let o = c.form.ensures.opened in opens_two o h c.args.page.now room Plus (sym c.in-Plus.ensures.is) c.first.ensures.is c.decreases

pub put_tree-text-requires : goal.put_tree-text-requires
put_tree-text-requires t c =
    let (h, room) = c.requires in let o = c.form.ensures.opened in room_for_sign o h c.args.page.now room Plus (sym c.in-Plus.ensures.is) c.first.ensures.is c.put_opened.ensures

pub put_tree-put_closed-requires : goal.put_tree-put_closed-requires
put_tree-put_closed-requires t c =
    let (h, room) = c.requires in let o = c.form.ensures.opened in
    closes_two o h c.args.page.now room Plus (sym c.in-Plus.ensures.is) c.first.ensures.is c.second.ensures.is c.decreases (puts_more c.put_opened.ensures c.text.ensures)

pub put_tree-returns-in-Plus : goal.put_tree-returns-in-Plus
put_tree-returns-in-Plus t c =
    let (h, room) = c.requires in let o = c.form.ensures.opened in
    both o h c.args.page.now room Plus (sym c.in-Plus.ensures.is) c.first.ensures.is c.second.ensures.is
    (puts_more (puts_more c.put_opened.ensures c.text.ensures) c.put_closed.ensures)

pub put_tree-put_opened-requires-in-Geq : goal.put_tree-put_opened-requires-in-Geq
put_tree-put_opened-requires-in-Geq t c =
    let (h, room) = c.requires in let o = c.form.ensures.opened in opens_two o h c.args.page.now room Geq (sym c.in-Geq.ensures.is) c.first-in-Geq.ensures.is c.decreases

pub put_tree-text-requires-in-Geq : goal.put_tree-text-requires-in-Geq
put_tree-text-requires-in-Geq t c =
    let (h, room) = c.requires in let o = c.form.ensures.opened in room_for_sign o h c.args.page.now room Geq (sym c.in-Geq.ensures.is) c.first-in-Geq.ensures.is c.put_opened-in-Geq.ensures

pub put_tree-put_closed-requires-in-Geq : goal.put_tree-put_closed-requires-in-Geq
put_tree-put_closed-requires-in-Geq t c =
    let (h, room) = c.requires in let o = c.form.ensures.opened in
    closes_two o h c.args.page.now room Geq (sym c.in-Geq.ensures.is) c.first-in-Geq.ensures.is c.second-in-Geq.ensures.is c.decreases (puts_more c.put_opened-in-Geq.ensures c.text-in-Geq.ensures)

pub put_tree-returns-in-Geq : goal.put_tree-returns-in-Geq
put_tree-returns-in-Geq t c =
    let (h, room) = c.requires in let o = c.form.ensures.opened in
    both o h c.args.page.now room Geq (sym c.in-Geq.ensures.is) c.first-in-Geq.ensures.is c.second-in-Geq.ensures.is
    (puts_more (puts_more c.put_opened-in-Geq.ensures c.text-in-Geq.ensures) c.put_closed-in-Geq.ensures)

pub put_tree-put_opened-requires-in-Seq : goal.put_tree-put_opened-requires-in-Seq
put_tree-put_opened-requires-in-Seq t c =
    let (h, room) = c.requires in let o = c.form.ensures.opened in opens_two o h c.args.page.now room Seq (sym c.in-Seq.ensures.is) c.first-in-Seq.ensures.is c.decreases

pub put_tree-text-requires-in-Seq : goal.put_tree-text-requires-in-Seq
put_tree-text-requires-in-Seq t c =
    let (h, room) = c.requires in let o = c.form.ensures.opened in room_for_sign o h c.args.page.now room Seq (sym c.in-Seq.ensures.is) c.first-in-Seq.ensures.is c.put_opened-in-Seq.ensures

pub put_tree-put_closed-requires-in-Seq : goal.put_tree-put_closed-requires-in-Seq
put_tree-put_closed-requires-in-Seq t c =
    let (h, room) = c.requires in let o = c.form.ensures.opened in
    closes_two o h c.args.page.now room Seq (sym c.in-Seq.ensures.is) c.first-in-Seq.ensures.is c.second-in-Seq.ensures.is c.decreases (puts_more c.put_opened-in-Seq.ensures c.text-in-Seq.ensures)

pub put_tree-returns-in-Seq : goal.put_tree-returns-in-Seq
put_tree-returns-in-Seq t c =
    let (h, room) = c.requires in let o = c.form.ensures.opened in
    both o h c.args.page.now room Seq (sym c.in-Seq.ensures.is) c.first-in-Seq.ensures.is c.second-in-Seq.ensures.is
    (puts_more (puts_more c.put_opened-in-Seq.ensures c.text-in-Seq.ensures) c.put_closed-in-Seq.ensures)
