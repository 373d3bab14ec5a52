-- Each answer is what the tests that lead to it make of the mark.
use Rattle.std.proofs.Common.{◌+◌, sym, ◌∙◌, eq-eqb, ne_eqb}
use Rattle.text_limits.specs.Marks.{large}
use Rattle.text_limits.proofs.Passing.{at_byte, tail}
use Rattle.text_limits.proofs.large_at.Goals as goal

pub returns-then-signed : goal.returns-then-signed
unfolding large
returns-then-signed c =
    rw (tail c.args.t.now (c.args.i + 1)) at c.over.ensures ∙ sym (rw (eq-eqb _ 45 c.if-b-eq45.true, sym c.signed.ensures ∙ c.if-signed.true))

pub returns-else-signed : goal.returns-else-signed
unfolding large
returns-else-signed c = c.if-signed.false ∙ sym (rw (eq-eqb _ 45 c.if-b-eq45.true, sym c.signed.ensures ∙ c.if-signed.false))

pub returns-then-begin_with : goal.returns-then-begin_with
unfolding large
returns-then-begin_with c =
    rw (tail c.args.t.now c.args.i, at_byte c.args.t.now c.args.i c.requires, c.bound.ensures) at c.over-then-begin_with.ensures
    ∙ sym (rw (ne_eqb _ 45 c.if-b-eq45.false, sym c.begin_with.ensures ∙ c.if-begin_with.true))

pub returns-else-begin_with : goal.returns-else-begin_with
unfolding large
returns-else-begin_with c = c.if-begin_with.false ∙ sym (rw (ne_eqb _ 45 c.if-b-eq45.false, sym c.begin_with.ensures ∙ c.if-begin_with.false))
