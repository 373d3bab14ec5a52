-- The places of a moment are as the writers of its text ask.
use Prim.Native.Nat.{ℕ}
use native.Mathlib.Omega.{arith}
use mathlib.Core.Path.{refl}
use mathlib.Core.List.{List}
use Rattle.l1.specs.Store.{Store}
use Rattle.routine.proofs.Standing.{is_open}
use Rattle.machine.specs.Moment.{Moment}
use Rattle.machine.specs.declared.state.Pending.{Pending}
use Rattle.machine.specs.declared.state.Machine.{Machine}
use Rattle.machine.proofs.Turns.{height_fits}
use Rattle.moment_text.specs.Stand.{Stands}

pub moment_stands : {b : List ℕ} {s₀ s : Store} {p : Pending} {m : Machine} → Moment b s₀ s p m → Stands b p
moment_stands i = let h = height_fits i in record { opened = is_open i.runnable (refl, refl); few = omega arith; held = i.held }
