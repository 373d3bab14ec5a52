-- 14 bytes for each node are enough, and else the text is measured.
use Rattle.std.proofs.Common.{arith}
use Rattle.text_form.proofs.AnyShown.{long_refused}
use Rattle.writer.proofs.Writing.{surely_fits}
use Rattle.writer.proofs.write_open.Goals as goal

pub put-requires : goal.put-requires
put-requires c = omega (arith, surely_fits c.nodes.ensures.opened c.nodes.ensures.bytes)

pub returns-then-buf-n : goal.returns-then-buf-n
returns-then-buf-n c =
    rw c.text_length-n.ensures (long_refused c.nodes.ensures.opened.opens c.nodes.ensures.opened.holds c.args.buf.now (omega (arith, c.text_length-n.ensures)))
