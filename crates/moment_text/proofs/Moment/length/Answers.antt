-- All places are measured.
use Rattle.std.proofs.Common.{arith, ◌≡◌, ap, length}
use Rattle.moment_text.proofs.TextAround.{around, length_around}
use Rattle.moment_text.proofs.Moment.length.Goals as goal

pub returns : goal.returns
returns c =
    let b = c.self.inside.lengths.row.now in let p = c.self.inside.pending.now in
    let end : c.loop-j.j ≡ p.height = omega (arith, c.loop-j-test.false, c.loop-j.auto.j-end) in
    let all = ap (around b p.frames) end in
    omega (arith, ap length c.self.view_is, all, end, c.loop-j.invariant, length_around b p c.self.inside.work, c.work-n.ensures, c.self.invariant.0.few)
