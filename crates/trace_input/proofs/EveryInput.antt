-- `trace` prints exactly one list of lines for every input, whatever it is: there is one, and `prints_unique` has that there is no other.
use Prim.Native.Nat.{ℕ, zero, suc, ◌+◌}
use native.Mathlib.Omega.{arith}
use mathlib.Core.Path.{◌≡◌, refl, ap}
use mathlib.Core.Logic.{⊎_elim}
use mathlib.Core.List.{List}
use lib.ListN.{length}
use Rattle.l1.specs.Run.{Answer, answer, Yields}
use Rattle.l1.proofs.Outcomes.{some_answer, answer_counts_steps}
use Rattle.stored.specs.Refusals.{locations, routine, after_routine}
use Rattle.stored.specs.Trace.{values_from, fuel_in, store_in, Prints, prints_refusal, prints_run}
use Rattle.stored.proofs.Traces.{prints_unique}
use Rattle.routine.specs.Open.{root_of}
use Rattle.checker.specs.declared.admission.Lent.TheVariants.{Input}
use Rattle.checker.proofs.EveryRow.{Admitted, every_row}

values_length : (b : List ℕ) (at m : ℕ) → length (values_from b at m) ≡ m
values_length b at zero = refl
values_length b at (suc m) = ap suc (values_length b (at + 4) m)

module _ (input : List ℕ) where
  pub every_print : (ls : List (List ℕ)) × Prints input ls
  every_print = ⊎_elim (λ (r, f). (_, prints_refusal f)) runs (every_row (routine input) (Input (length (after_routine input))))
    where
      runs : Admitted (routine input) (Input (length (after_routine input))) → (ls : List (List ℕ)) × Prints input ls
      runs (p, ok, e) =
          let all = values_length (after_routine input) 4 (locations (routine input)) in
          by_answer (some_answer (fuel_in input) (omega arith) ok.typed)
        where
          by_answer : (a : Answer) × Yields (fuel_in input) (root_of (routine input)) (store_in input) a → (ls : List (List ℕ)) × Prints input ls
          by_answer (answer o T K e' s', y) = (_, prints_run p ok.holds y (answer_counts_steps y).0)

  pub exactly_one_print : (ls : List (List ℕ)) × Prints input ls × ((ls' : List (List ℕ)) → Prints input ls' → ls' ≡ ls)
  exactly_one_print = let (ls, p) = every_print in (ls, p, λ ls' p'. prints_unique p' p)
