-- 4 first, and then a slice that is enough for the text's nodes.
use Rattle.std.proofs.Common.{arith}
use Rattle.reader.proofs.Taking.{refused_4, enough_short, enough_long}
use Rattle.reader.proofs.read.Goals as goal

pub returns-then-m-gt64 : goal.returns-then-m-gt64
returns-then-m-gt64 c = refused_4 c.if-m-gt64.true

pub read_in-requires : goal.read_in-requires
read_in-requires c = (omega arith, omega arith, enough_short (omega arith))

pub read_in-requires-in-385-to-1536 : goal.read_in-requires-in-385-to-1536
read_in-requires-in-385-to-1536 c = (omega arith, omega arith, enough_short (omega arith))

pub read_in-requires-in_default : goal.read_in-requires-in_default
read_in-requires-in_default c = (omega arith, omega arith, enough_long (omega arith))
