-- 01's depth, by which refusal 9 was given before request 2 of 02: a tree has fewer places than it is deep, and it is no deeper than half of its
-- places, its nodes and 1: where a form has a part that takes no place of it, it has another part. The second law bounds what recurs over a tree.
use Prim.Native.Nat.{ℕ, ◌+◌, ◌*◌, ◌≤◌, ◌<◌, max}
use native.Mathlib.Omega.{arith}
use Rattle.l1.specs.Syntax.{Expr, int, bool, ◌‹◌#◌›◌, if◌then'◌else◌, ◌:=◌, !◌, skip, ◌⨾◌, while◌do'◌done}
use Rattle.l1.specs.Measures.{size, places}
use Rattle.l1.proofs.Nodes.{size_positive}

-- "Depth of a node without children is 1, of any other 1 more than its deepest child."
abbrev pub depth : Expr → ℕ
depth (int n) = 1
depth (bool b) = 1
depth (e₁ ‹ o # i › e₂) = 1 + max (depth e₁) (depth e₂)
depth (if e₁ then' e₂ else e₃) = 1 + max (depth e₁) (max (depth e₂) (depth e₃))
depth (l := e) = 1 + depth e
depth (! l) = 1
depth skip = 1
depth (e₁ ⨾ e₂) = 1 + max (depth e₁) (depth e₂)
depth (while e₁ do' e₂ done) = 1 + max (depth e₁) (depth e₂)

pub places_below_depth : (e : Expr) → places e < depth e
places_below_depth (int n) = omega arith
places_below_depth (bool b) = omega arith
places_below_depth (e₁ ‹ o # i › e₂) = omega (arith, places_below_depth e₁, places_below_depth e₂)
places_below_depth (if e₁ then' e₂ else e₃) = omega (arith, places_below_depth e₁, places_below_depth e₂, places_below_depth e₃)
places_below_depth (l := e) = omega (arith, places_below_depth e)
places_below_depth (! l) = omega arith
places_below_depth skip = omega arith
places_below_depth (e₁ ⨾ e₂) = omega (arith, places_below_depth e₁, places_below_depth e₂)
places_below_depth (while e₁ do' e₂ done) = omega (arith, places_below_depth e₁, places_below_depth e₂)

pub depth_by_places : (e : Expr) → 2 * depth e ≤ places e + size e + 1
depth_by_places (int n) = omega arith
depth_by_places (bool b) = omega arith
depth_by_places (e₁ ‹ o # i › e₂) = omega (arith, depth_by_places e₁, depth_by_places e₂)
depth_by_places (if e₁ then' e₂ else e₃) = omega (arith, depth_by_places e₁, depth_by_places e₂, depth_by_places e₃, size_positive e₁, size_positive e₂, size_positive e₃)
depth_by_places (l := e) = omega (arith, depth_by_places e)
depth_by_places (! l) = omega arith
depth_by_places skip = omega arith
depth_by_places (e₁ ⨾ e₂) = omega (arith, depth_by_places e₁, depth_by_places e₂, size_positive e₁)
depth_by_places (while e₁ do' e₂ done) = omega (arith, depth_by_places e₁, depth_by_places e₂)
