-- What an answer of the run says: demand 3 and 01's sentences on the run, of whatever answer the definition `Runs` allows; and that there is one.
use Prim.Native.Nat.{ℕ, ◌≤◌}
use native.Mathlib.Omega.{arith}
use mathlib.Core.Path.{◌≡◌, refl}
use mathlib.Core.List.{List}
use lib.ListN.{length}
use Rattle.l1.specs.Syntax.{Loc, Expr, Value, Ty}
use Rattle.l1.specs.Store.{Store, lookup}
use Rattle.l1.specs.Typing.{◌⊢◌∶◌}
use Rattle.l1.specs.Run.{Run, Outcome, value, fuel, Answer, answer, Yields}
use Rattle.l1.specs.Measures.{working, loop_nodes, limit}
use Rattle.l1.specs.Sets.{writing, writes, ◌∈◌}
use Rattle.l1.proofs.Declared.{uses_declared}
use Rattle.l1.proofs.Runs.{run_keeps_type, run_keeps_locations, run_keeps_others}
use Rattle.l1.proofs.Outcomes.{some_answer, answer_counts_steps, answer_within_limit, no_loop_comes_to_its_end, EndsWith, with_value, answer_ends}
use Rattle.stored.specs.Stages.{Refusal, Passes}
use Rattle.stored.specs.Refusals.{locations, env, Holds, lent_store}
use Rattle.stored.specs.Answers.{Opens, Ran, ran, Runs, run_refuses, run_yields}
use Rattle.stored.proofs.Reader.{holds_unique}
use Rattle.stored.proofs.Stages.{when_silent, passes_nothing, passes_more}
use Rattle.stored.proofs.Admission.{admitted_typed, admitted}

-- a store that has the routine's locations adds no refusal
pub store_passes : (b : List ℕ) {entries : ℕ} → locations b ≤ entries → Passes (lent_store b entries)
store_passes b c = passes_more (when_silent (λ l. omega arith)) passes_nothing

module _ {b : List ℕ} {s : Store} where
  -- of a typed tree and such a store, what the definition yields is the run's answer
  pub run_answers : {f T K : ℕ} {e e' : Expr} {U : Ty} {s' : Store} {o : Outcome} → Opens b → Holds b e → env b ⊢ e ∶ U → locations b ≤ length s
      → Yields f e s (answer o T K e' s') → Runs b s f (ran o T K) s'
  run_answers ok h t c y = run_yields (admitted ok h (lent_store b (length s)) t (store_passes b c)) h y

  -- and there is one with every fuel
  pub run_exists : {e : Expr} {U : Ty} (f : ℕ) → Opens b → Holds b e → env b ⊢ e ∶ U → locations b ≤ length s
      → (o : Outcome) × (T : ℕ) × (K : ℕ) × (s' : Store) × Runs b s f (ran o T K) s'
  run_exists {e} f ok h t c = by_answer (some_answer f c t)
    where
      by_answer : (a : Answer) × Yields f e s a → (o : Outcome) × (T : ℕ) × (K : ℕ) × (s' : Store) × Runs b s f (ran o T K) s'
      by_answer (answer o T K e' s', y) = (o, T, K, s', run_answers ok h t c y)

  pub refusal_keeps_store : {f : ℕ} {r : Refusal} {s' : Store} → Runs b s f (Ran.refuses r) s' → s' ≡ s
  refusal_keeps_store (run_refuses l) = refl

  -- whatever the answer, the store keeps its length, and an entry outside the write set or from m on is as at the start
  pub run_keeps_length : {f : ℕ} {a : Ran} {s' : Store} → Runs b s f a s' → length s' ≡ length s
  run_keeps_length (run_refuses l) = refl
  run_keeps_length (run_yields none h y) = run_keeps_locations (answer_counts_steps y).0

  pub run_keeps_outside : {f : ℕ} {a : Ran} {s' : Store} {e : Expr} → Runs b s f a s' → Holds b e
      → (l : Loc) → ¬ (l ∈ writes e) → lookup s' l ≡ lookup s l
  run_keeps_outside (run_refuses k) h l n = refl
  run_keeps_outside (run_yields none h' y) h l n = run_keeps_others (answer_counts_steps y).0 (rw (holds_unique b h' h) n)

  pub run_keeps_undeclared : {f : ℕ} {a : Ran} {s' : Store} → Runs b s f a s' → (l : Loc) → locations b ≤ l → lookup s' l ≡ lookup s l
  run_keeps_undeclared (run_refuses k) l m = refl
  run_keeps_undeclared (run_yields none h y) l m =
      let (U, t) = admitted_typed none h in
      run_keeps_others (answer_counts_steps y).0 (λ w. let k = ((uses_declared writing t).each l w).below in omega arith)

-- what the outcome, T and K say of the tree that the bytes hold
module _ {b : List ℕ} {s s' : Store} {f T K : ℕ} where
  answer_of_tree : {o : Outcome} {e : Expr} → Runs b s f (ran o T K) s' → Holds b e → (e' : Expr) × Yields f e s (answer o T K e' s')
  answer_of_tree (run_yields {e' = e'} none h' y) h = (e', rw (holds_unique b h' h) at y)

  -- T and K are the counts of the definition's own steps, and the store is the definition's after them
  pub run_answer_counts : {o : Outcome} → Runs b s f (ran o T K) s' → (e : Expr) × (e' : Expr) × Holds b e × Run T K e s e' s' × (T ≤ f)
  run_answer_counts (run_yields {e} {e'} none h y) = let (ds, l) = answer_counts_steps y in (e, e', h, ds, l)

  pub run_answer_within_limit : {o : Outcome} {e : Expr} → Runs b s f (ran o T K) s' → Holds b e → T ≤ limit (working e) K
  run_answer_within_limit r h = answer_within_limit (answer_of_tree r h).1

  pub run_answer_no_fuel_without_loop : {e : Expr} → Runs b s f (ran fuel T K) s' → Holds b e → loop_nodes e ≡ 0 → working e ≤ f → ⊥
  run_answer_no_fuel_without_loop r h z w = no_loop_comes_to_its_end z w (answer_of_tree r h).1

  pub run_value_has_type : {v e : Expr} {U : Ty} → Runs b s f (ran (value v) T K) s' → Holds b e → env b ⊢ e ∶ U → Value v × (env b ⊢ v ∶ U)
  run_value_has_type r h t =
      let (e', y) = answer_of_tree r h in by_end (answer_ends y) (run_keeps_type (answer_counts_steps y).0 t)
    where
      by_end : {e' v : Expr} {U : Ty} → EndsWith f T e' s' (value v) → env b ⊢ e' ∶ U → Value v × (env b ⊢ v ∶ U)
      by_end (with_value w) t' = (w, t')
