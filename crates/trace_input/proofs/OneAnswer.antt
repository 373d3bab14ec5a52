-- The contract of `take_in` leaves one answer: any two that it allows for the same input are the same.
use Prim.Native.Nat.{ℕ}
use mathlib.Core.Path.{◌≡◌, ap, sym, ◌∙◌}
use mathlib.Core.List.{List}
use Rattle.std.specs.Prelude.{Result, Ok, Err}
use Rattle.stored.proofs.Stages.{passes_none}
use Rattle.stored.proofs.Traces.{trace_refusal_unique}
use Rattle.routine.specs.declared.Refusal.{Refusal}
use Rattle.routine.proofs.RefusalNames.{refusal_unique}
use Rattle.trace_input.specs.Says.{TakenSays}
use Rattle.trace_input.specs.declared.Taken.{Taken}

pub one_taken : (input : List ℕ) (r r' : Result Taken Refusal) → TakenSays input r → TakenSays input r' → r ≡ r'
one_taken input (Err r) (Err r') f f' = ap Err (refusal_unique (trace_refusal_unique input f f'))
one_taken input (Err r) (Ok t) f (ok, e) = absurd (passes_none ok.passes f)
one_taken input (Ok t) (Err r) (ok, e) f = absurd (passes_none ok.passes f)
one_taken input (Ok t) (Ok t') (ok, e) (ok', e') = ap Ok (e ∙ sym e')
