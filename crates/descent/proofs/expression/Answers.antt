-- The slice is as the descent left it.
use Rattle.std.proofs.Common.{rules, sym}
use Rattle.descent.proofs.Trees.{from_place}
use Rattle.descent.proofs.expression.Goals as goal

pub returns : goal.returns
returns c = let h = sym c.expression.ensures.slice in from_place c.in_ok-expression.ensures (search rules)
