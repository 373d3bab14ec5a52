-- The rows of the training course that 01 marks P are right: one table, one statement. The definitions are computed on the whole table at once,
-- and what is computed is what the relations say.
use Prim.Native.Nat.{ℕ}
use mathlib.Core.Path.{◌≡◌, refl, sym, ap}
use mathlib.Core.Bool.{Bool, true}
use mathlib.Core.Option.{Option, none, some, some-injective, none-ne-some}
use mathlib.Core.List.{List, [], ◌∷◌, map}
use borrow.Author.Tests.{leb-true}
use lib.Dec.{leb}
use lib.ListN.{length}
use Rattle.l1.specs.Syntax.{Expr, Ty}
use Rattle.l1.specs.Store.{Store}
use Rattle.l1.specs.Typing.{TypeEnv}
use Rattle.l1.specs.Run.{Answer, answer}
use Rattle.l1.specs.Text.{text, digits}
use Rattle.l1.specs.Refused.{nodes, Verdict, typed, refused, Judged, has_type, has_none}
use Rattle.l1.specs.Judge.{rule_type, fault, first_fault, verdict}
use Rattle.l1.specs.Next.{next}
use Rattle.l1.specs.RunOf.{run_of}
use Rattle.l1.specs.Course.{Said, run_gives, refused_by, Row, Found, found_run, found_refused, Right, rows, AllRight, no_rows, one_more_row}
use Rattle.l1.proofs.Progress.{Covers}
use Rattle.l1.proofs.Verdict.{verdict_judged}
use Rattle.l1.proofs.RunOf.{computed_yields}
use Rattle.l1.proofs.OwnNumbers.{carried_from, numbers_from, own_numbers}

-- the answer, computed
abbrev by_run : Ty → Option Answer → Option Said
by_run U (some (answer o T K e s)) = some (run_gives U o T K (text e) s)
by_run U none = none

abbrev by_verdict : Verdict → Option Answer → Option Said
by_verdict (typed U) a = by_run U a
by_verdict (refused c i) a = some (refused_by c i)

unfoldable tell : TypeEnv → ℕ → Expr → Store → Option Said
tell Γ f e s = by_verdict (verdict Γ e) (run_of f e s)

told : {Γ : TypeEnv} (f : ℕ) (e : Expr) (s : Store) {x : Said} → Covers Γ s → tell Γ f e s ≡ some x → Found Γ f e s x
unfolding tell
told {Γ} f e s {x} c h = go (verdict Γ e) (verdict_judged Γ e) (run_of f e s) refl h
  where
    go : (v : Verdict) → Judged Γ e v → (a : Option Answer) → run_of f e s ≡ a → by_verdict v a ≡ some x → Found Γ f e s x
    go (typed U) (has_type t) (some (answer o T K e' s')) q p = rw (← some-injective _ _ p) (found_run t c (computed_yields f c t q))
    go (typed U) (has_type t) none q p = absurd (none-ne-some x p)
    go (refused i j) (has_none r) a q p = rw (← some-injective _ _ p) (found_refused r)

-- what a row says, and what is computed of it: the routine's text, the numbers of its nodes, that the store covers the locations, and the answer
abbrev Computed : Type 0
Computed = List ℕ × List ℕ × Bool × Option Said

unfoldable said : Row → Computed
said r = (r.printed, numbers_from 0 (nodes r.tree), true, some r.says)

unfoldable found : Row → Computed
found r = (
  text r.tree,
  carried_from 0 (nodes r.tree),
  leb r.locations (length r.store),
  tell (record { locations = r.locations }) r.fuel_given r.tree r.store,
)

right : (r : Row) → said r ≡ found r → Right r
unfolding said found
right r h =
    let covers = leb-true r.locations (length r.store) (sym (ap (λ (x : Computed). x.2) h)) in
    record {
      its_text = ap (λ (x : Computed). x.0) h;
      its_numbers = own_numbers r.tree (sym (ap (λ (x : Computed). x.1) h));
      its_answer = told r.fuel_given r.tree r.store covers (sym (ap (λ (x : Computed). x.3) h));
    }

first_same : (r : Row) (rs : List Row) → map said (r ∷ rs) ≡ map found (r ∷ rs) → (said r ≡ found r) × (map said rs ≡ map found rs)
first_same r rs h = (cc, cc)

all_right : (rs : List Row) → map said rs ≡ map found rs → AllRight rs
all_right [] h = no_rows
all_right (r ∷ rs) h = let p = first_same r rs h in one_more_row (right r p.0) (all_right rs p.1)

table_computed : map said rows ≡ map found rows
unfolding rows said found carried_from numbers_from tell verdict first_fault fault rule_type run_of next text digits
table_computed = refl

pub course_rows_are_right : AllRight rows
course_rows_are_right = all_right rows table_computed
