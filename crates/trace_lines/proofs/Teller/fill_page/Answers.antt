-- Nothing is told yet; and the next line is told behind those that are.
use Rattle.std.proofs.Common.{arith, refl, ◌≡◌, ◌∙◌}
use Rattle.trace_lines.proofs.Telling.{tells_none, tells_more, told_here, tells_keeps}
use Rattle.trace_lines.proofs.Teller.fill_page.Goals as goal

pub loop-machine-init : goal.loop-machine-init
loop-machine-init c = record {
  told = λ z ls i. tells_none i;
  within = c.requires.bounds.0;
  on = omega arith;
  room = c.requires.bounds.2;
  store = refl;
}

pub returns-in_err-machine : goal.returns-in_err-machine
returns-in_err-machine c =
    let n = c.in_err-machine.ensures in
    rw c.from_residual.ensures ((λ z ls i. tells_more (c.loop-machine.invariant.told z ls i) (λ ks t. n.0 z ks t)), ((λ m e. cc), n.1.1))

pub returns-then-page : goal.returns-then-page
returns-then-page c =
    let n = c.in_ok-machine.ensures in
    let w = n.1.0 c.in_ok-machine.machine refl in (
      (λ z ls i. tells_more (c.loop-machine.invariant.told z ls i) (λ ks t. n.0 z ks t)),
      ((λ m e. let q : m.steps ≡ c.in_ok-machine.machine.steps = cc in (omega (arith, w.0), omega (arith, w.1, c.loop-machine.invariant.on))), n.1.1),
    )

pub loop-machine-preserved : goal.loop-machine-preserved
loop-machine-preserved c =
    let n = c.in_ok-machine.ensures in
    let w = n.1.0 c.in_ok-machine.machine refl in
    let (s₀, ls, i) = c.requires.by_index in
    let (ks, t) = told_here (c.loop-machine.invariant.told s₀ ls i) in
    record {
      told = λ z ls i. tells_more (c.loop-machine.invariant.told z ls i) (λ ks t. n.0 z ks t);
      within = w.0;
      on = omega (arith, w.1, c.loop-machine.invariant.on);
      room = omega (arith, tells_keeps (n.0 s₀ ks t), c.loop-machine.invariant.room, c.if-page.false);
      store = c.next_line.auto.s ∙ c.loop-machine.invariant.store;
    }
