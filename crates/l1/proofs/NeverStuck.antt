-- Demand 3, said of every moment of the run of a typed row: the type and the number of locations are kept, the entries outside the write set
-- and those from m on are as at the start, and exactly one of value of its type, overflow at one node, and one step is there.
use Prim.Native.Nat.{ℕ, ◌≤◌}
use native.Mathlib.Omega.{arith}
use mathlib.Core.Path.{◌≡◌}
use lib.ListN.{length}
use Rattle.l1.specs.Syntax.{Loc, Expr, Ty}
use Rattle.l1.specs.Store.{Store, lookup}
use Rattle.l1.specs.Typing.{TypeEnv, ◌⊢◌∶◌}
use Rattle.l1.specs.Run.{Run}
use Rattle.l1.specs.Measures.{working, limit}
use Rattle.l1.specs.Sets.{writing, writes, ◌∈◌}
use Rattle.l1.specs.Next.{Act, Does}
use Rattle.l1.proofs.Progress.{Covers, exactly_one_act}
use Rattle.l1.proofs.Runs.{run_keeps_type, run_keeps_locations, run_keeps_others}
use Rattle.l1.proofs.Declared.{uses_declared}
use Rattle.l1.proofs.Bound.{run_within_limit}

-- ⟨e', s'⟩ after T steps, K of them by `while`, of the row e of type U from the store s
pub record Moment (Γ : TypeEnv) (e : Expr) (U : Ty) (s : Store) (T K : ℕ) (e' : Expr) (s' : Store) : Type 0 where
  pub keeps_type : Γ ⊢ e' ∶ U
  pub keeps_locations : length s' ≡ length s
  pub keeps_others : (l : Loc) → ¬ (l ∈ writes e) → lookup s' l ≡ lookup s l
  pub keeps_undeclared : (l : Loc) → Γ.locations ≤ l → lookup s' l ≡ lookup s l
  pub within_limit : T ≤ limit (working e) K
  pub exactly_one : (x : Act) × Does e' s' x × ((y : Act) → Does e' s' y → y ≡ x)

pub never_stuck : {Γ : TypeEnv} {U : Ty} {T K : ℕ} {e e' : Expr} {s s' : Store} → Covers Γ s → Γ ⊢ e ∶ U → Run T K e s e' s' → Moment Γ e U s T K e' s'
never_stuck c a ds =
    let n = run_keeps_locations ds in
    record {
      keeps_type = run_keeps_type ds a;
      keeps_locations = n;
      keeps_others = λ l m. run_keeps_others ds m;
      keeps_undeclared = λ l h. run_keeps_others ds (λ m. let k = ((uses_declared writing a).each l m).below in omega arith);
      within_limit = run_within_limit ds;
      exactly_one = exactly_one_act (omega arith) (run_keeps_type ds a);
    }
