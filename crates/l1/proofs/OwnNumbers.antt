-- That each operator of a tree carries the number of its own node, from a list of numbers that can be computed.
use Prim.Native.Nat.{ℕ, suc, ◌+◌}
use native.Mathlib.Omega.{arith}
use mathlib.Core.Path.{◌≡◌}
use mathlib.Core.List.{List, [], ◌∷◌}
use Rattle.l1.specs.Syntax.{Op, Expr, int, bool, ◌‹◌#◌›◌, if◌then'◌else◌, ◌:=◌, !◌, skip, ◌⨾◌, while◌do'◌done}
use Rattle.l1.specs.Refused.{nodes, Nth, nth_zero, nth_suc, Numbered}

-- the number that the form at node i carries; i where it carries none
abbrev number_at : ℕ → Expr → ℕ
number_at i (int n) = i
number_at i (bool b) = i
number_at i (e₁ ‹ o # j › e₂) = j
number_at i (if e₁ then' e₂ else e₃) = i
number_at i (l := e) = i
number_at i (! l) = i
number_at i skip = i
number_at i (e₁ ⨾ e₂) = i
number_at i (while e₁ do' e₂ done) = i

-- the numbers that the nodes ds carry, and those where they stand, from f on
unfoldable pub carried_from : ℕ → List Expr → List ℕ
carried_from f [] = []
carried_from f (d ∷ ds) = number_at f d ∷ carried_from (suc f) ds

unfoldable pub numbers_from : ℕ → List Expr → List ℕ
numbers_from f [] = []
numbers_from f (d ∷ ds) = f ∷ numbers_from (suc f) ds

nth_number : (f : ℕ) {i j : ℕ} {ds : List Expr} {o : Op} {e₁ e₂ : Expr} → Nth ds i (e₁ ‹ o # j › e₂) → carried_from f ds ≡ numbers_from f ds → j ≡ f + i
unfolding carried_from numbers_from
nth_number f {j = j} nth_zero h = let q : j ≡ f = cc in omega arith
nth_number f (nth_suc {ds = ds} n) h = let rest : carried_from (suc f) ds ≡ numbers_from (suc f) ds = cc in omega (arith, nth_number (suc f) n rest)

pub own_numbers : (e : Expr) → carried_from 0 (nodes e) ≡ numbers_from 0 (nodes e) → Numbered e
own_numbers e h = record { own_number = λ n. omega (arith, nth_number 0 n h) }
