-- The lines in the parts that are written one after the other.
use Prim.Native.Nat.{ℕ, zero, suc, ◌≤◌, ◌<◌}
use native.Mathlib.Omega.{arith}
use mathlib.Core.Path.{◌≡◌, refl, sym, ap, ◌∙◌}
use mathlib.Core.Bool.{Bool, cond}
use mathlib.Core.List.{List, [], ◌∷◌, ◌++◌, append_assoc, append-nil}
use borrow.Author.Tests.{lt-ltb, le-ltb}
use lib.Dec.{ltb}
use lib.IntN.{pos}
use lib.ListN.{length, get_or, take}
use Rattle.l1.specs.Syntax.{Expr}
use Rattle.l1.specs.Store.{Store}
use Rattle.l1.specs.Run.{Outcome, value, overflow, fuel}
use Rattle.l1.specs.Text.{bytes, decimal, integer, text}
use Rattle.stored.specs.Trace.{newline, shortened, values_text, moment_line, counts_text, last_line}
use Rattle.trace_lines.specs.Lines.{outcome_text, joined}

pub last_parts : (o : Outcome) (T K : ℕ) → last_line o T K ≡ outcome_text o ++ counts_text T K
last_parts (value v) T K = refl
last_parts (overflow n) T K = refl
last_parts fuel T K = refl

-- (decimal k ++ " " ++ name ++ " "), the text, and (" |" ++ values ++ newline)
regroup : (a b c d e f g h : List ℕ) → a ++ b ++ c ++ d ++ e ++ f ++ g ++ h ≡ (a ++ b ++ c ++ d) ++ e ++ (f ++ g ++ h)
regroup a b c d e f g h = simp append_assoc

pub moment_parts : (k : ℕ) (name : List ℕ) (e : Expr) (s : Store)
    → moment_line k name e s ≡ (decimal k ++ bytes " " ++ name ++ bytes " ") ++ shortened (text e) ++ (bytes " |" ++ values_text s ++ newline)
moment_parts k name e s = regroup (decimal k) (bytes " ") name (bytes " ") (shortened (text e)) (bytes " |") (values_text s) newline

pub joined_more : (ms : List (List ℕ)) (l : List ℕ) → joined (ms ++ l ∷ []) ≡ joined ms ++ l
joined_more [] l = append-nil l
joined_more (m ∷ ms) l = ap (λ (t : List ℕ). m ++ t) (joined_more ms l) ∙ sym (append_assoc m (joined ms) l)

-- one value more
regroup_value : (a b c d e : List ℕ) → a ++ b ++ (c ++ d ++ e) ≡ a ++ b ++ c ++ d ++ e
regroup_value a b c d e = simp append_assoc

pub values_more : (s : Store) (i : ℕ) → i < length s → values_text (take (suc i) s) ≡ values_text (take i s) ++ bytes " " ++ integer (get_or s i (pos 0))
values_more [] i h = absurd (omega arith)
values_more (n ∷ s) zero h = append-nil (bytes " " ++ integer n)
values_more (n ∷ s) (suc i) h =
    ap (λ (t : List ℕ). bytes " " ++ integer n ++ t) (values_more s i (omega arith))
    ∙ regroup_value (bytes " ") (integer n) (values_text (take i s)) (bytes " ") (integer (get_or s i (pos 0)))

-- a text as it is shown, by its length n
pub shown_long : (t : List ℕ) (n : ℕ) → n ≡ length t → 8192 < n → shortened t ≡ bytes "#" ++ decimal n
shown_long t n e h =
    ap (λ (k : ℕ). cond (ltb 8192 k) (bytes "#" ++ decimal k) t) (sym e) ∙ ap (λ (x : Bool). cond x (bytes "#" ++ decimal n) t) (lt-ltb 8192 n h)

pub shown_short : (t : List ℕ) (n : ℕ) → n ≡ length t → n ≤ 8192 → shortened t ≡ t
shown_short t n e h = ap (λ (x : Bool). cond x (bytes "#" ++ decimal (length t)) t) (le-ltb 8192 (length t) (omega arith))
