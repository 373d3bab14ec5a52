-- The test of an unrolled loop: its body and the loop again.
use Rattle.std.proofs.Common.{arith, length-append}
use Rattle.l1.specs.Text.{text}
use Rattle.moment_text.proofs.Lengths.place.Goals as goal

pub returns-in-Again : goal.returns-in-Again
unfolding text
returns-in-Again c =
    let t = rw c.second-in-Again.ensures.is at c.node-in-Again.ensures in
    rw c.in-Again.is (simp length-append (omega (arith, t, c.node-in-Again-2.ensures)))
