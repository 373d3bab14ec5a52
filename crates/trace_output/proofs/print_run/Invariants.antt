-- The places and the store stand at the moment whose line was told last, and each page makes a step, or is the last.
use Rattle.std.proofs.Common.{ℕ, Option, Some, None, List, length, ◌+◌, ◌-◌, ◌≡◌, ◌≤◌}
use Rattle.l1.specs.Store.{Store}
use Rattle.machine.specs.declared.state.Machine.{Machine}
use Rattle.trace_lines.specs.Lines.{LinesAt}
use Rattle.trace_output.proofs.print_run.Given as goal

-- what is left of a run with the fuel f: nothing once the last line is told, and else a page, and a step for each fuel
abbrev pub left : ℕ → Option Machine → ℕ
left f None = 0
left f (Some m) = 1 + (f - m.steps)

abbrev pub invariant-loop-next : goal.invariant-loop-next
invariant-loop-next g l = record {
  at_moment :
      (m : Machine) → l.next ≡ Some m
      → (m.steps ≤ l.teller.fuel) × ((z : Store) × (ls : List (List ℕ)) × LinesAt l.teller.program.now z ls l.pending m l.s);
  written : l.page.at ≤ length l.page.room.now;
  room : 20000 ≤ length l.page.room.now;
  store : length l.s ≤ 64;
}

abbrev pub decreases-loop-next : goal.decreases-loop-next
decreases-loop-next g l = left l.teller.fuel l.next
