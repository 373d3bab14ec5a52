-- The first line, and the whole of them: what is told when all is told is what `trace` prints.
use Prim.Native.Nat.{ℕ, ◌-◌}
use mathlib.Core.Path.{◌≡◌, refl, subst}
use mathlib.Core.List.{List, [], ◌∷◌, ◌++◌}
use Rattle.std.specs.Prelude.{None}
use Rattle.l1.specs.Store.{Store}
use Rattle.l1.specs.Run.{stay, answer, Yields}
use Rattle.l1.specs.Text.{bytes}
use Rattle.l1.proofs.Outcomes.{answer_counts_steps}
use Rattle.stored.specs.Stages.{Passes}
use Rattle.stored.specs.Refusals.{count, routine, Holds, tracing}
use Rattle.stored.specs.Trace.{fuel_in, store_in, moment_line, moment_lines, last_line, Prints, prints_run}
use Rattle.routine.specs.Open.{root_of}
use Rattle.machine.specs.Acts.{Loaded}
use Rattle.machine.specs.Moment.{meaning, Moment}
use Rattle.machine.specs.declared.state.Pending.{Pending}
use Rattle.machine.specs.declared.state.Machine.{Machine}
use Rattle.machine.proofs.FirstMoment.{first_meaning}
use Rattle.trace_lines.specs.Lines.{lines_to, AllLines, all_lines, LinesAt, name_of}
use Rattle.trace_lines.proofs.NextLine.{same_end}

pub first_line : {b : List ℕ} {s : Store} {p : Pending} {m : Machine} → Moment b s s p m → p.height ≡ 0
    → Loaded b (count b - 1) m.work × (m.steps ≡ 0) × (m.loops ≡ 0) × (m.rule ≡ None)
    → LinesAt b s (moment_line m.steps (name_of m.rule) (meaning b p m) s ∷ []) p m s
first_line {b} {s} {p} {m} i h (l, t, k, q) = record { moment = i; lines = rw (first_meaning b p m h l, t, q) (lines_to stay) }

pub all_prints : {input : List ℕ} {ls : List (List ℕ)} → Passes (tracing input) → Holds (routine input) (root_of (routine input))
    → AllLines (routine input) (store_in input) (fuel_in input) ls → Prints input ls
all_prints {input} none h (all_lines {o} {T} {K} {e} {s} (lines_to {K = K'} ds) y) =
    let (q, p, k) = same_end refl refl refl ds (answer_counts_steps y).0 in
    let same : Yields (fuel_in input) (root_of (routine input)) (store_in input) (answer o T K' e s) = rw k y in
    subst (λ (n : ℕ). Prints input (moment_line 0 (bytes "start") (root_of (routine input)) (store_in input) ∷ moment_lines 0 ds ++ last_line o T n ∷ []))
    k (prints_run none h same ds)
