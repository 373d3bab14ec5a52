-- With no pending place, no step made and the root as the work, the machine stands at the first moment of a run.
use Prim.Native.Nat.{ℕ, ◌-◌, ◌≤◌}
use native.Mathlib.Omega.{arith}
use mathlib.Core.Path.{◌≡◌}
use mathlib.Core.List.{List}
use lib.ListN.{length}
use Rattle.std.specs.Prelude.{None}
use Rattle.l1.specs.Store.{Store}
use Rattle.l1.specs.Run.{stay}
use Rattle.stored.specs.Refusals.{locations, count}
use Rattle.routine.specs.Open.{root_of, Runnable}
use Rattle.machine.specs.Moment.{meaning, Moment, no_step}
use Rattle.machine.specs.Acts.{Loaded}
use Rattle.machine.specs.declared.state.Pending.{Pending}
use Rattle.machine.specs.declared.state.Machine.{Machine}

pub first_meaning : (b : List ℕ) (p : Pending) (m : Machine) → p.height ≡ 0 → Loaded b (count b - 1) m.work → meaning b p m ≡ root_of b
first_meaning b p m h l = rw h l.same

pub first_moment : {b : List ℕ} {s : Store} {p : Pending} {m : Machine} → Runnable b → locations b ≤ length s
    → (p.height ≡ 0) × (length p.frames ≡ 256) → Loaded b (count b - 1) m.work × (m.steps ≡ 0) × (m.loops ≡ 0) × (m.rule ≡ None) → Moment b s s p m
first_moment {b} {s} {p} {m} ok c (h, n) (l, t, k, r₀) = record {
  runnable = ok;
  covered = c;
  run = rw (t, k, first_meaning b p m h l) stay;
  last = no_step t;
  seen = l.seen;
  frames = n;
  room = omega arith;
  held = λ j lt. absurd (omega arith);
}
