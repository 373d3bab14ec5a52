-- The contract of `run` leaves one answer and one store: any two that it allows for the same bytes, store and fuel are the same.
use Prim.Native.Nat.{ℕ}
use mathlib.Core.Path.{◌≡◌, refl, ap}
use mathlib.Core.List.{List}
use Rattle.std.specs.Prelude.{Result, Ok, Err}
use Rattle.l1.specs.Syntax.{int, bool, ◌‹◌#◌›◌, if◌then'◌else◌, ◌:=◌, !◌, skip, ◌⨾◌, while◌do'◌done}
use Rattle.l1.specs.Store.{Store}
use Rattle.l1.specs.Run.{Outcome, value, overflow, fuel}
use Rattle.stored.specs.Answers.{Runs}
use Rattle.stored.proofs.OneAnswer.{runs_unique}
use Rattle.routine.specs.declared.Refusal.{Refusal}
use Rattle.routine.specs.Says.{refusal_of}
use Rattle.routine.proofs.RefusalNames.{refusal_unique}
use Rattle.machine.specs.State.{outcome_of}
use Rattle.machine.specs.declared.state.Ending.{Ending}
use Rattle.machine.specs.declared.state.Ending.TheVariants.{Int, Bool, Skip, Overflow, Fuel}
use Rattle.runner.specs.Says.{ran_of}
use Rattle.runner.specs.declared.End.{End}

-- the code's case for an outcome; for a value that is none, no matter which
back : Outcome → Ending
back (value (int n)) = Int n
back (value (bool t)) = Bool t
back (value skip) = Skip
back (value (e₁ ‹ o # i › e₂)) = Fuel
back (value (if e₁ then' e₂ else e₃)) = Fuel
back (value (l := e)) = Fuel
back (value (! l)) = Fuel
back (value (e₁ ⨾ e₂)) = Fuel
back (value (while e₁ do' e₂ done)) = Fuel
back (overflow i) = Overflow i
back fuel = Fuel

back_again : (o : Ending) → back (outcome_of o) ≡ o
unfolding back
back_again (Int n) = refl
back_again (Bool t) = refl
back_again Skip = refl
back_again (Overflow i) = refl
back_again Fuel = refl

ran_unique : (r r' : Result End Refusal) → ran_of r ≡ ran_of r' → r ≡ r'
ran_unique (Err r) (Err r') e = let q : refusal_of r ≡ refusal_of r' = cc in ap Err (refusal_unique q)
ran_unique (Err r) (Ok t) e = cc
ran_unique (Ok t) (Err r) e = cc
ran_unique (Ok t) (Ok t') e =
    let o : t.ending ≡ t'.ending = cc (back_again t.ending, back_again t'.ending) in
    let n : t.steps ≡ t'.steps = cc in
    let k : t.loops ≡ t'.loops = cc in
    λ i. Ok (record { ending = o i; steps = n i; loops = k i })

pub one_run : {b : List ℕ} {s s₁ s₂ : Store} {f : ℕ} {r r' : Result End Refusal} → Runs b s f (ran_of r) s₁ → Runs b s f (ran_of r') s₂ → (r ≡ r') × (s₁ ≡ s₂)
one_run {b} {r = r} {r' = r'} x x' = let (q, w) = runs_unique b x x' in (ran_unique r r' q, w)
