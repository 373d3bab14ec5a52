-- 01, "Rows from the training course": the rows marked P, as one table, and what it is for a row to be right.
use Rattle.std.specs.Prelude.{ℕ, ◌≤◌, ◌≡◌, true, false, List, [], ◌∷◌, pos, negsuc, length}
use Rattle.l1.specs.Syntax.{plus, geq, Expr, int, bool, ◌‹◌#◌›◌, if◌then'◌else◌, ◌:=◌, !◌, skip, ◌⨾◌, while◌do'◌done, Ty, ty_int, ty_unit}
use Rattle.l1.specs.Store.{Store}
use Rattle.l1.specs.Typing.{TypeEnv, ◌⊢◌∶◌}
use Rattle.l1.specs.Run.{Outcome, value, overflow, fuel, answer, Yields}
use Rattle.l1.specs.Text.{bytes, text}
use Rattle.l1.specs.Refused.{Numbered, Refused}

-- the column "answer": the type, the outcome, T, K, the text of the expression at the end and the store; or the refusal with its node
pub data Said : Type 0 where
  run_gives : Ty → Outcome → ℕ → ℕ → List ℕ → Store → Said
  refused_by : ℕ → ℕ → Said

pub record Row : Type 0 where
  pub printed : List ℕ
  pub tree : Expr
  pub locations : ℕ
  pub fuel_given : ℕ
  pub store : Store
  pub says : Said

-- what the definitions say of a row
pub data Found (Γ : TypeEnv) (f : ℕ) (e : Expr) (s : Store) : Said → Type 0 where
  found_run : {U : Ty} {o : Outcome} {T K : ℕ} {e' : Expr} {s' : Store}
      → Γ ⊢ e ∶ U → Γ.locations ≤ length s → Yields f e s (answer o T K e' s')
      → Found Γ f e s (run_gives U o T K (text e') s')
  found_refused : {c i : ℕ}
      → Refused Γ e c i
      → Found Γ f e s (refused_by c i)

pub record Right (r : Row) : Type 0 where
  pub its_text : r.printed ≡ text r.tree
  pub its_numbers : Numbered r.tree
  pub its_answer : Found (record { locations = r.locations }) r.fuel_given r.tree r.store r.says

abbrev row : List ℕ → Expr → ℕ → ℕ → Store → Said → Row
row t e m f s a = record { printed = t; tree = e; locations = m; fuel_given = f; store = s; says = a }

-- a store of one location
abbrev l0 : ℕ → Store
l0 n = pos n ∷ []

abbrev count_down : Expr
count_down = while (! 0) ‹ geq # 2 › int (pos 1) do' 0 := ((! 0) ‹ plus # 5 › int (negsuc 0)) done

abbrev forever : Expr
forever = while bool true do' skip done

-- the routine's text; the routine; m; fuel; the store; the answer
unfoldable pub rows : List Row
rows =
    row (bytes "(l0 := (!l0 + 25))") (0 := ((! 0) ‹ plus # 2 › int (pos 25))) 1 100 (l0 1875) (run_gives ty_unit (value skip) 3 0 (bytes "skip") (l0 1900))
    ∷ row (bytes "7") (int (pos 7)) 1 0 (l0 0) (run_gives ty_int (value (int (pos 7))) 0 0 (bytes "7") (l0 0))
    ∷ row (bytes "(l0 := 1)") (0 := int (pos 1)) 1 0 (l0 9) (run_gives ty_unit fuel 0 0 (bytes "(l0 := 1)") (l0 9))
    ∷ row (bytes "((l0 := 1) ; !l0)") ((0 := int (pos 1)) ⨾ (! 0)) 1 100 (l0 9) (run_gives ty_int (value (int (pos 1))) 3 0 (bytes "1") (l0 1))
    ∷ row (bytes "(true + skip)") (bool true ‹ plus # 2 › skip) 1 100 (l0 0) (refused_by 21 2)
    ∷ row (bytes "(5 ; skip)") (int (pos 5) ⨾ skip) 1 100 (l0 0) (refused_by 21 2)
    ∷ row (bytes "(if true then 1 else skip)") (if bool true then' int (pos 1) else skip) 1 100 (l0 0) (refused_by 23 3)
    ∷ row (bytes "!l0") (! 0) 0 100 [] (refused_by 20 0)
    ∷ row (bytes "(2147483647 + 0)") (int (pos 2147483647) ‹ plus # 2 › int (pos 0)) 1 100 (l0 0) (run_gives ty_int (value (int (pos 2147483647))) 1 0 (bytes "2147483647") (l0 0))
    ∷ row (bytes "(2147483647 + 1)") (int (pos 2147483647) ‹ plus # 2 › int (pos 1)) 1 0 (l0 0) (run_gives ty_int (overflow 2) 0 0 (bytes "(2147483647 + 1)") (l0 0))
    ∷ row (bytes "(while false do skip done)") (while bool false do' skip done) 1 100 (l0 0) (run_gives ty_unit (value skip) 2 1 (bytes "skip") (l0 0))
    ∷ row (bytes "(while true do skip done)") forever 1 5 (l0 0) (run_gives ty_unit fuel 5 2 (bytes "(skip ; (while true do skip done))") (l0 0))
    ∷ row (bytes "(while (!l0 >= 1) do (l0 := (!l0 + -1)) done)") count_down 1 100 (l0 2) (run_gives ty_unit (value skip) 20 3 (bytes "skip") (l0 0))
    ∷ []

-- `AllRight rs`: each row of rs is right
pub data AllRight : List Row → Type 0 where
  no_rows : AllRight []
  one_more_row : {r : Row} {rs : List Row} → Right r → AllRight rs → AllRight (r ∷ rs)
