-- The computed run is the run: whatever is yielded is computed, and of a typed row what is computed is yielded.
use Prim.Native.Nat.{ℕ, zero, suc}
use mathlib.Core.Path.{◌≡◌, sym, ◌∙◌}
use mathlib.Core.Option.{some, some-injective}
use Rattle.l1.specs.Syntax.{Expr, Ty}
use Rattle.l1.specs.Store.{Store}
use Rattle.l1.specs.Typing.{TypeEnv, ◌⊢◌∶◌}
use Rattle.l1.specs.Run.{value, overflow, Answer, answer, Yields, ends_value, ends_overflow, ends_fuel, goes_on}
use Rattle.l1.specs.Next.{ends, overflows, does_end, does_overflow, does_step, next}
use Rattle.l1.specs.RunOf.{run_of}
use Rattle.l1.proofs.Progress.{Covers}
use Rattle.l1.proofs.Next.{does_computed}
use Rattle.l1.proofs.Outcomes.{some_answer}

at_value : (f : ℕ) {e : Expr} {s : Store} → next e s ≡ some ends → run_of f e s ≡ some (answer (value e) 0 0 e s)
unfolding run_of
at_value zero h = rw h
at_value (suc f) h = rw h

at_overflow : (f : ℕ) {e : Expr} {s : Store} {n : ℕ} → next e s ≡ some (overflows n) → run_of f e s ≡ some (answer (overflow n) 0 0 e s)
unfolding run_of
at_overflow zero h = rw h
at_overflow (suc f) h = rw h

pub yields_computed : {f : ℕ} {e : Expr} {s : Store} {a : Answer} → Yields f e s a → run_of f e s ≡ some a
unfolding run_of
yields_computed (ends_value {f = f} v) = at_value f (does_computed (does_end v))
yields_computed (ends_overflow {f = f} p) = at_overflow f (does_computed (does_overflow p))
yields_computed (ends_fuel d) = rw (does_computed (does_step d))
yields_computed (goes_on d y) = rw (does_computed (does_step d), yields_computed y)

pub computed_yields : {Γ : TypeEnv} {T : Ty} (f : ℕ) {e : Expr} {s : Store} {a : Answer}
    → Covers Γ s → Γ ⊢ e ∶ T → run_of f e s ≡ some a → Yields f e s a
computed_yields f {s = s} c t q =
    let p = some_answer f {s = s} c t in
    rw (some-injective _ _ (sym q ∙ yields_computed p.1)) p.1
