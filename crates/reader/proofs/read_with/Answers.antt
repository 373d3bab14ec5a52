-- What the descent has read to the text's end is written behind the head, and else the text is judged.
use Rattle.std.proofs.Common.{◌∙◌, arith}
use Rattle.reader.proofs.Taking.{refused_text, refused_room, took, whole, nothing_read, not_all_read}
use Rattle.reader.proofs.read_with.Goals as goal

pub judge-requires : goal.judge-requires
judge-requires c = nothing_read c.args.nodes.now c.in_default.ensures.found c.requires.2

pub returns-in_default : goal.returns-in_default
returns-in_default c = refused_text c.requires.0 c.judge.ensures

pub judge-requires-then-end-t : goal.judge-requires-then-end-t
judge-requires-then-end-t c = not_all_read c.in-Some.ensures.found c.requires.2 c.if-end-t.true

pub returns-then-end-t : goal.returns-then-end-t
returns-then-end-t c = refused_text c.requires.0 c.judge-then-end-t.ensures

pub returns-then-room-needed : goal.returns-then-room-needed
returns-then-room-needed c =
    let w = whole c.in-Some.ensures.found c.requires.0 c.requires.1 c.if-end-t.false in
    refused_room w.storable w.shown (omega (arith, w.count)) c.if-room-needed.true

pub returns : goal.returns
returns c =
    let w = whole c.in-Some.ensures.found c.requires.0 c.requires.1 c.if-end-t.false in
    took w.storable w.shown w.count c.if-room-needed.false (c.copy_from_slice.ensures.after ∙ c.head.ensures) (c.put_nodes.ensures ∙ w.held)
