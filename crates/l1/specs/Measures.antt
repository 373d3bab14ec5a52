-- The numbers of an expression: its nodes, its places, W, its loops, and the demands' limit on the steps of a run.
use Rattle.std.specs.Prelude.{ℕ, ◌+◌, ◌*◌, max}
use Rattle.l1.specs.Syntax.{Expr, int, bool, ◌‹◌#◌›◌, if◌then'◌else◌, ◌:=◌, !◌, skip, ◌⨾◌, while◌do'◌done}

-- the number of nodes
abbrev pub size : Expr → ℕ
size (int n) = 1
size (bool b) = 1
size (e₁ ‹ o # i › e₂) = 1 + size e₁ + size e₂
size (if e₁ then' e₂ else e₃) = 1 + size e₁ + size e₂ + size e₃
size (l := e) = 1 + size e
size (! l) = 1
size skip = 1
size (e₁ ⨾ e₂) = 1 + size e₁ + size e₂
size (while e₁ do' e₂ done) = 1 + size e₁ + size e₂

-- 02, request 2, the count of refusal 9: "integers, booleans, skip and dereference 0; an operator 1 more than the larger of its sides; an
-- assignment 1 more than its child; an if the largest of (test + 1) and its branches; a sequence the larger of (first + 1) and the second; a
-- while 1 more than the larger of its two parts". No run of e has more forms around the place of its next step (proofs/Places.antt).
abbrev pub places : Expr → ℕ
places (int n) = 0
places (bool b) = 0
places (e₁ ‹ o # i › e₂) = 1 + max (places e₁) (places e₂)
places (if e₁ then' e₂ else e₃) = max (places e₁ + 1) (max (places e₂) (places e₃))
places (l := e) = 1 + places e
places (! l) = 0
places skip = 0
places (e₁ ⨾ e₂) = max (places e₁ + 1) (places e₂)
places (while e₁ do' e₂ done) = 1 + max (places e₁) (places e₂)

-- "W is the number of nodes of kinds 2 to 6, 8 and 9": all but integers, booleans and skip
abbrev pub working : Expr → ℕ
working (int n) = 0
working (bool b) = 0
working (e₁ ‹ o # i › e₂) = 1 + working e₁ + working e₂
working (if e₁ then' e₂ else e₃) = 1 + working e₁ + working e₂ + working e₃
working (l := e) = 1 + working e
working (! l) = 1
working skip = 0
working (e₁ ⨾ e₂) = 1 + working e₁ + working e₂
working (while e₁ do' e₂ done) = 1 + working e₁ + working e₂

-- the number of loops; "a row with no loop" has 0
abbrev pub loop_nodes : Expr → ℕ
loop_nodes (int n) = 0
loop_nodes (bool b) = 0
loop_nodes (e₁ ‹ o # i › e₂) = loop_nodes e₁ + loop_nodes e₂
loop_nodes (if e₁ then' e₂ else e₃) = loop_nodes e₁ + loop_nodes e₂ + loop_nodes e₃
loop_nodes (l := e) = loop_nodes e
loop_nodes (! l) = 0
loop_nodes skip = 0
loop_nodes (e₁ ⨾ e₂) = loop_nodes e₁ + loop_nodes e₂
loop_nodes (while e₁ do' e₂ done) = 1 + loop_nodes e₁ + loop_nodes e₂

-- demand 3: "With W working nodes and K `while` steps it has made at most W + K × (W + 2) steps."
abbrev pub limit : ℕ → ℕ → ℕ
limit W K = W + K * (W + 2)
