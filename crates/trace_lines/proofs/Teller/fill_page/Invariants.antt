-- What is told so far is on the page, and there is room for one more line. The measure is what is left of the fuel: each line but the last is of a step.
use Rattle.std.proofs.Common.{ℕ, List, length, Some, ◌≡◌, ◌+◌, ◌-◌, ◌≤◌}
use Rattle.l1.specs.Store.{Store}
use Rattle.trace_lines.specs.Lines.{LinesAt}
use Rattle.trace_lines.specs.Says.{Tells}
use Rattle.trace_lines.proofs.Teller.fill_page.Given as goal

abbrev pub invariant-loop-machine : goal.invariant-loop-machine
invariant-loop-machine l = record {
  told :
      (z : Store) (ls : List (List ℕ)) → LinesAt l.self.program.now z ls l.initial.pending l.initial.machine l.initial.s
      → Tells l.self.program.now z l.self.fuel ls l.initial.page l.page l.pending l.s (Some l.machine);
  within : l.machine.steps ≤ l.self.fuel;
  on : l.initial.machine.steps ≤ l.machine.steps;
  room : l.page.at + 10000 ≤ length l.page.room.now;
  store : length l.s ≡ length l.initial.s;
}

abbrev pub decreases-loop-machine : goal.decreases-loop-machine
decreases-loop-machine l = l.self.fuel - l.machine.steps
