-- W and the two sets as sums over the nodes of a tree: what each node itself adds, in post-order.
use Prim.Native.Nat.{ℕ, suc, ◌+◌}
use native.Mathlib.Nat.{add-zero}
use native.Mathlib.Numerals.{add-one}
use native.Mathlib.Omega.{arith}
use mathlib.Core.Path.{◌≡◌, refl, ap}
use mathlib.Core.List.{List, [], ◌∷◌, ◌++◌, append_assoc, append-nil}
use lib.ListN.{take}
use Rattle.l1.specs.Syntax.{Loc, Expr, int, bool, ◌‹◌#◌›◌, if◌then'◌else◌, ◌:=◌, !◌, skip, ◌⨾◌, while◌do'◌done}
use Rattle.l1.specs.Measures.{working}
use Rattle.l1.specs.Sets.{Use, uses_of_deref, uses_of_assign, uses}
use Rattle.l1.specs.Refused.{nodes, Nth, nth_zero, nth_suc}

-- what the root of a tree itself adds to W and to a set
abbrev pub own_work : Expr → ℕ
own_work (int n) = 0
own_work (bool b) = 0
own_work (e₁ ‹ o # i › e₂) = 1
own_work (if e₁ then' e₂ else e₃) = 1
own_work (l := e) = 1
own_work (! l) = 1
own_work skip = 0
own_work (e₁ ⨾ e₂) = 1
own_work (while e₁ do' e₂ done) = 1

abbrev pub own_uses : Use → Expr → List Loc
own_uses u (int n) = []
own_uses u (bool b) = []
own_uses u (e₁ ‹ o # i › e₂) = []
own_uses u (if e₁ then' e₂ else e₃) = []
own_uses u (l := e) = uses_of_assign u l
own_uses u (! l) = uses_of_deref u l
own_uses u skip = []
own_uses u (e₁ ⨾ e₂) = []
own_uses u (while e₁ do' e₂ done) = []

-- and what the roots of some trees add together
unfoldable pub work_of : List Expr → ℕ
work_of [] = 0
work_of (d ∷ ds) = own_work d + work_of ds

unfoldable pub uses_of : Use → List Expr → List Loc
uses_of u [] = []
uses_of u (d ∷ ds) = own_uses u d ++ uses_of u ds

pub work_append : (ds cs : List Expr) → work_of (ds ++ cs) ≡ work_of ds + work_of cs
unfolding work_of
work_append [] cs = omega arith
work_append (d ∷ ds) cs = let h = work_append ds cs in omega arith

pub uses_append : (u : Use) (ds cs : List Expr) → uses_of u (ds ++ cs) ≡ uses_of u ds ++ uses_of u cs
unfolding uses_of
uses_append u [] cs = refl
uses_append u (d ∷ ds) cs = rw (uses_append u ds cs, append_assoc)

pub work_one : (d : Expr) → work_of (d ∷ []) ≡ own_work d
unfolding work_of
work_one d = add-zero (own_work d)

pub uses_one : (u : Use) (d : Expr) → uses_of u (d ∷ []) ≡ own_uses u d
unfolding uses_of
uses_one u d = append-nil (own_uses u d)

pub working_sum : (e : Expr) → work_of (nodes e) ≡ working e
working_sum (int n) = work_one (int n)
working_sum (bool b) = work_one (bool b)
working_sum (e₁ ‹ o # i › e₂) = simp (work_append, work_one, working_sum e₁, working_sum e₂) (omega arith)
working_sum (if e₁ then' e₂ else e₃) = simp (work_append, work_one, working_sum e₁, working_sum e₂, working_sum e₃) (omega arith)
working_sum (l := e) = simp (work_append, work_one, working_sum e) (omega arith)
working_sum (! l) = work_one (! l)
working_sum skip = work_one skip
working_sum (e₁ ⨾ e₂) = simp (work_append, work_one, working_sum e₁, working_sum e₂) (omega arith)
working_sum (while e₁ do' e₂ done) = simp (work_append, work_one, working_sum e₁, working_sum e₂) (omega arith)

pub uses_sum : (u : Use) (e : Expr) → uses_of u (nodes e) ≡ uses u e
uses_sum u (int n) = uses_one u (int n)
uses_sum u (bool b) = uses_one u (bool b)
uses_sum u (e₁ ‹ o # i › e₂) = simp (uses_append, uses_one, uses_sum u e₁, uses_sum u e₂, append-nil)
uses_sum u (if e₁ then' e₂ else e₃) = simp (uses_append, uses_one, uses_sum u e₁, uses_sum u e₂, uses_sum u e₃, append-nil)
uses_sum u (l := e) = simp (uses_append, uses_one, uses_sum u e)
uses_sum u (! l) = uses_one u (! l)
uses_sum u skip = uses_one u skip
uses_sum u (e₁ ⨾ e₂) = simp (uses_append, uses_one, uses_sum u e₁, uses_sum u e₂, append-nil)
uses_sum u (while e₁ do' e₂ done) = simp (uses_append, uses_one, uses_sum u e₁, uses_sum u e₂, append-nil)

-- one more element of a list, by its number
pub take_nth : {ds : List Expr} {i : ℕ} {d : Expr} → Nth ds i d → take (suc i) ds ≡ take i ds ++ d ∷ []
take_nth nth_zero = refl
take_nth (nth_suc {c} n) = ap (λ (cs : List Expr). c ∷ cs) (take_nth n)

-- so the sums over the first nodes take one node more
pub work_more : {ds : List Expr} {i : ℕ} {d : Expr} → Nth ds i d → work_of (take (i + 1) ds) ≡ work_of (take i ds) + own_work d
work_more {ds} {i} {d} n = rw (add-one, take_nth n, work_append, work_one)

pub uses_more : {ds : List Expr} {i : ℕ} {d : Expr} (u : Use) → Nth ds i d → uses_of u (take (i + 1) ds) ≡ uses_of u (take i ds) ++ own_uses u d
uses_more {ds} {i} {d} u n = rw (add-one, take_nth n, uses_append, uses_one)
