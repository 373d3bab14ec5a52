-- 01, "The printing program": the lines that `trace` prints for each input.
use Rattle.std.specs.Prelude.{ℕ, zero, suc, ◌+◌, ◌*◌, cond, List, [], ◌∷◌, ◌++◌, ltb, length}
use Rattle.l1.specs.Syntax.{Expr}
use Rattle.l1.specs.Store.{Store}
use Rattle.l1.specs.Run.{Run, stay, more, Outcome, value, overflow, fuel, answer, Yields}
use Rattle.l1.specs.Text.{bytes, decimal, integer, text, rule_name}
use Rattle.stored.specs.Bytes.{pair, signed}
use Rattle.stored.specs.Stages.{Refusal, no, no_with, Passes, First}
use Rattle.stored.specs.Refusals.{locations, Holds, routine, after_routine, tracing}

-- ---- the input: "the routine, then 4 bytes of fuel, then m values of 4 bytes, signed, all big-endian"

abbrev pub four : List ℕ → ℕ → ℕ
four b at = pair b at * 65536 + pair b (at + 2)

abbrev pub fuel_in : List ℕ → ℕ
fuel_in input = four (after_routine input) 0

abbrev pub values_from : List ℕ → ℕ → ℕ → Store
values_from b at zero = []
values_from b at (suc m) = signed (four b at) ∷ values_from b (at + 4) m

abbrev pub store_in : List ℕ → Store
store_in input = values_from (after_routine input) 4 (locations (routine input))

-- ---- the lines; "every line ends with byte 10"

abbrev pub newline : List ℕ
newline = 10 ∷ []

-- "A text over 8,192 bytes is printed as `#` with its length directly after"
abbrev pub shortened : List ℕ → List ℕ
shortened t = cond (ltb 8192 (length t)) (bytes "#" ++ decimal (length t)) t

-- "each location's value after one space"
abbrev pub values_text : Store → List ℕ
values_text [] = []
values_text (n ∷ s) = bytes " " ++ integer n ++ values_text s

-- "step number, rule (`start` at 0), text, ` |`, then each location's value after one space"
abbrev pub moment_line : ℕ → List ℕ → Expr → Store → List ℕ
moment_line k rule e s = decimal k ++ bytes " " ++ rule ++ bytes " " ++ shortened (text e) ++ bytes " |" ++ values_text s ++ newline

-- "One line a moment": a line after each step, the steps before the first of them being k
abbrev pub moment_lines : {T K : ℕ} {e e' : Expr} {s s' : Store} → ℕ → Run T K e s e' s' → List (List ℕ)
moment_lines k stay = []
moment_lines k (more {r = r} {e₁ = e₁} {s₁ = s₁} d ds) = moment_line (suc k) (rule_name r) e₁ s₁ ∷ moment_lines (suc k) ds

abbrev pub counts_text : ℕ → ℕ → List ℕ
counts_text T K = bytes " steps " ++ decimal T ++ bytes " loops " ++ decimal K ++ newline

-- "Last line: `value V steps T loops K`, or `overflow at N steps T loops K`, or `fuel steps T loops K`"
abbrev pub last_line : Outcome → ℕ → ℕ → List ℕ
last_line (value v) T K = bytes "value " ++ text v ++ counts_text T K
last_line (overflow n) T K = bytes "overflow at " ++ decimal n ++ counts_text T K
last_line fuel T K = bytes "fuel" ++ counts_text T K

-- "`refused C`, with ` at N` for 7 and 20 to 23"; no other number of `trace` has anything with it
abbrev pub refused_line : Refusal → List ℕ
refused_line (no c) = bytes "refused " ++ decimal c ++ newline
refused_line (no_with c i) = bytes "refused " ++ decimal c ++ bytes " at " ++ decimal i ++ newline

-- ---- the output

pub data Prints (input : List ℕ) : List (List ℕ) → Type 0 where
  -- "A refusal is the single line"
  prints_refusal : {r : Refusal} → First (tracing input) r → Prints input (refused_line r ∷ [])
  prints_run : {e e' : Expr} {s' : Store} {o : Outcome} {T K : ℕ}
      → Passes (tracing input) → Holds (routine input) e
      → Yields (fuel_in input) e (store_in input) (answer o T K e' s')
      → (steps : Run T K e (store_in input) e' s')
      → Prints input (moment_line 0 (bytes "start") e (store_in input) ∷ moment_lines 0 steps ++ last_line o T K ∷ [])
