-- Where the node keeps the layout a tree stands, and its children's entries give its own; else none stands.
use Rattle.std.proofs.Common.{◌+◌, ◌<◌, refl, sym, ◌∙◌, arith}
use Rattle.stored.specs.Layout.{node_start, arg}
use Rattle.opener.proofs.LayoutTurn.{breaks, few_places, passes}
use Rattle.opener.proofs.tell.Goals as goal

pub returns-then-not-keeps : goal.returns-then-not-keeps
returns-then-not-keeps c =
    let small : arg c.args.b.now c.args.i < 256 = omega (arith, c.type_inv.b (node_start c.args.i + 1)) in
    let none = breaks c.requires.4 c.requires.3 small c.node_at-d.ensures c.entry-first.ensures c.entry-second.ensures c.entry-third.ensures in
    record { passed = tt; breaks = (refl, none (sym c.keeps.ensures ∙ c.if-not-keeps.true)) }

pub overflow_cast-places : goal.overflow_cast-places
overflow_cast-places c =
    let small : arg c.args.b.now c.args.i < 256 = omega (arith, c.type_inv.b (node_start c.args.i + 1)) in
    let few = few_places c.requires.4 c.requires.3 small c.node_at-d.ensures c.entry-first.ensures c.entry-second.ensures c.entry-third.ensures in
    omega (arith, few (sym c.keeps.ensures ∙ c.if-not-keeps.false), c.places_of-places.ensures)

pub returns : goal.returns
returns c =
    let small : arg c.args.b.now c.args.i < 256 = omega (arith, c.type_inv.b (node_start c.args.i + 1)) in
    let pass = passes c.requires.4 c.requires.3 small c.node_at-d.ensures c.entry-first.ensures c.entry-second.ensures c.entry-third.ensures in
    record {
      passed = pass (sym c.keeps.ensures ∙ c.if-not-keeps.false) _ (rw (c.pick-low.ensures, c.children_of.ensures.0)) c.places_of-places.ensures c.requires.2;
      breaks = tt;
    }
