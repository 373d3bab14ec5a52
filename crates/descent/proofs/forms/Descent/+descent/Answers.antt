-- What is not read the search finds; what is read stands in the slice with its root behind it.
use Rattle.std.proofs.Common.{◌∙◌, refl, arith, rules}
use Rattle.l1.specs.Syntax.{if◌then'◌else◌, ◌:=◌, while◌do'◌done}
use Rattle.text_form.specs.Parser.{two_parts, besides}
use Rattle.routine.specs.Forms.{kind_of}
use Rattle.descent.specs.Found.{left}
use Rattle.descent.specs.Forms.{cap_of, if_of, while_of, assign_of, sides_of}
use Rattle.descent.proofs.Words.{is_byte, no_byte, when_not, unless_not}
use Rattle.descent.proofs.FirstBytes.{unopened, no_more, an_if, a_while, an_assignment, two_sides}
use Rattle.descent.proofs.Trees.{nothing_yet, one_more, closes, same_start, counts, if_bytes, assign_bytes, while_bytes, sides_bytes, two_size}
use Rattle.descent.proofs.forms.Descent.+descent.Goals as goal

pub expression-returns-then-ne : goal.expression-returns-then-ne
expression-returns-then-ne t c =
    same_start c.leaf.result refl refl refl
    (unopened (cap_of c.args.self.now) c.args.self.now.count (left c.args.self.now.text) c.args.room.levels c.args.room.places
    (no_byte c.next.result 40 c.next.ensures (omega arith) (when_not _ c.if-ne.ensures)))
    c.leaf.ensures

pub expression-returns-in_err-inside : goal.expression-returns-in_err-inside
expression-returns-in_err-inside t c =
    rw c.from_residual.ensures
    (record {
      text = refl;
      slice = refl;
      kept = refl;
      found = no_more (cap_of c.args.self.now) c.args.self.now.count (left c.args.self.now.text) c.args.room.levels c.args.room.places
          (is_byte c.next.result 40 c.next.ensures (unless_not _ c.if-ne.ensures))
          c.in_err-inside.ensures;
    })

pub expression-returns-in-Some-eq105 : goal.expression-returns-in-Some-eq105
expression-returns-in-Some-eq105 t c =
    let (x, y) = c.in_ok-inside.ensures in
    same_start c.if_form.result c.pass.ensures.text refl refl
    (rw c.pass.ensures.left
    (an_if (cap_of c.args.self.now) c.args.self.now.count (left c.args.self.now.text) _ _ x y
    (is_byte c.next.result 40 c.next.ensures (unless_not _ c.if-ne.ensures)) (rw (← c.pass.ensures.left) (search rules))))
    c.if_form.ensures

pub expression-returns-in-Some-eq119 : goal.expression-returns-in-Some-eq119
expression-returns-in-Some-eq119 t c =
    let (x, y) = c.in_ok-inside.ensures in
    same_start c.while_form.result c.pass.ensures.text refl refl
    (rw c.pass.ensures.left
    (a_while (cap_of c.args.self.now) c.args.self.now.count (left c.args.self.now.text) _ _ x y
    (is_byte c.next.result 40 c.next.ensures (unless_not _ c.if-ne.ensures)) (rw (← c.pass.ensures.left) (search rules))))
    c.while_form.ensures

pub expression-returns-in-Some-eq108 : goal.expression-returns-in-Some-eq108
expression-returns-in-Some-eq108 t c =
    let (x, y) = c.in_ok-inside.ensures in
    same_start c.assign_form.result c.pass.ensures.text refl refl
    (rw c.pass.ensures.left
    (an_assignment (cap_of c.args.self.now) c.args.self.now.count (left c.args.self.now.text) _ _ x y
    (is_byte c.next.result 40 c.next.ensures (unless_not _ c.if-ne.ensures)) (rw (← c.pass.ensures.left) (search rules))))
    c.assign_form.ensures

pub expression-returns-in_default : goal.expression-returns-in_default
expression-returns-in_default t c =
    let (x, y) = c.in_ok-inside.ensures in
    same_start c.sides.result c.pass.ensures.text refl refl
    (rw c.pass.ensures.left
    (two_sides (cap_of c.args.self.now) c.args.self.now.count (left c.args.self.now.text) _ _ x y
    (is_byte c.next.result 40 c.next.ensures (unless_not _ c.if-ne.ensures))
    (rw (← c.pass.ensures.left) (search rules)) (rw (← c.pass.ensures.left) (search rules)) (rw (← c.pass.ensures.left) (search rules))))
    c.sides.ensures

pub assign_form-returns : goal.assign_form-returns
unfolding assign_of
assign_form-returns t c =
    let v = c.in_ok-value.ensures.found in
    closes c.put.result (c.in_ok-location.location := v.read.expr) (one_more (nothing_yet _ _) v.read) (assign_bytes c.in_ok-location.location (counts v)) (omega (arith, v.read.count))
    c.part.ensures.slice
    (c.word-2.ensures.text ∙ c.part.ensures.text ∙ c.number.ensures.text ∙ c.word.ensures.text)
    (search rules)
    c.put.ensures

pub while_form-returns : goal.while_form-returns
unfolding while_of
while_form-returns t c =
    let a = c.in_ok-test.ensures.found in
    let b = c.in_ok-body.ensures.found in
    closes c.put.result (while a.read.expr do' b.read.expr done) (one_more (one_more (nothing_yet _ _) a.read) b.read) (while_bytes (counts a) (counts b)) (omega (arith, a.read.count, b.read.count))
    (c.part-2.ensures.slice ∙ c.part.ensures.slice)
    (c.word.ensures.text ∙ c.part-2.ensures.text ∙ c.part.ensures.text)
    (search rules)
    c.put.ensures

pub if_form-returns : goal.if_form-returns
unfolding if_of besides
if_form-returns t c =
    let a = c.in_ok-test.ensures.found in
    let b = c.in_ok-yes.ensures.found in
    let d = c.in_ok-no.ensures.found in
    closes c.put.result (if a.read.expr then' b.read.expr else d.read.expr) (one_more (one_more (one_more (nothing_yet _ _) a.read) b.read) d.read)
    (if_bytes (counts a) (counts b) (counts d)) (omega (arith, a.read.count, b.read.count, d.read.count))
    (c.part-3.ensures.slice ∙ c.part-2.ensures.slice ∙ c.part.ensures.slice)
    (c.word.ensures.text ∙ c.part-3.ensures.text ∙ c.part-2.ensures.text ∙ c.part.ensures.text)
    (search rules)
    c.put.ensures

pub sides-returns : goal.sides-returns
unfolding sides_of
sides-returns t c =
    let a = c.in_ok-first.ensures.found in
    let b = c.in_ok-second.ensures.found in
    closes c.put.result (two_parts (kind_of c.in_ok-form.form) c.expression-2.new.self.count a.read.expr b.read.expr) (one_more (one_more (nothing_yet _ _) a.read) b.read)
    (sides_bytes c.in_ok-form.form c.in_ok-form.ensures.sides (counts a) (counts b)) (two_size _ c.in_ok-form.form _ a.read.expr b.read.expr c.in_ok-form.ensures.sides (omega (arith, a.read.count, b.read.count)))
    (c.expression-2.ensures.slice ∙ c.expression.ensures.slice)
    (c.word.ensures.text ∙ c.expression-2.ensures.text ∙ c.joint.ensures.text ∙ c.expression.ensures.text)
    (search rules)
    c.put.ensures
