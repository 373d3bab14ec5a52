-- The stored form of a tree is made of bytes: each of its numbers is below 256.
use Prim.Native.Nat.{ℕ, zero, suc, ◌+◌, ◌*◌, ◌≤◌, ◌<◌}
use native.Mathlib.Omega.{arith}
use mathlib.Core.Bool.{Bool, true, false, cond}
use mathlib.Core.List.{List, [], ◌∷◌, ◌++◌}
use Rattle.l1.specs.Syntax.{Op, plus, geq, Expr, int, bool, ◌‹◌#◌›◌, if◌then'◌else◌, ◌:=◌, !◌, skip, ◌⨾◌, while◌do'◌done}
use Rattle.l1.specs.Measures.{size}
use Rattle.l1.specs.Refused.{nodes, nth_zero}
use Rattle.l1.proofs.Nodes.{nth_right}
use Rattle.stored.specs.Bytes.{byte, two_bytes}
use Rattle.stored.specs.Stored.{node_bytes, op_kind, root_from, bytes_from, stored, Storable}
use Rattle.stored.proofs.Fits.{Fits, storable_fits, fits_left, fits_first, fits_second, fits_rest}
use Rattle.stored.proofs.Signed.{unsigned_below}

abbrev Small : List ℕ → Type 0
Small [] = Unit
Small (x ∷ xs) = (x < 256) × Small xs

both_small : (xs ys : List ℕ) → Small xs → Small ys → Small (xs ++ ys)
both_small [] ys s t = t
both_small (x ∷ xs) ys s t = (s.0, both_small xs ys s.1 t)

small_byte : (xs : List ℕ) → Small xs → (k : ℕ) → byte xs k < 256
small_byte [] s k = omega arith
small_byte (x ∷ xs) s zero = s.0
small_byte (x ∷ xs) s (suc k) = small_byte xs s.1 k

kind_small : (o : Op) → op_kind o < 256
kind_small plus = omega arith
kind_small geq = omega arith

bit_small : (t : Bool) → cond t 1 0 < 256
bit_small true = omega arith
bit_small false = omega arith

two_small : (k f : ℕ) (e₁ e₂ : Expr) → k < 256 → f + (1 + size e₁ + size e₂) ≤ 65536 → Small (bytes_from f e₁) → Small (bytes_from (f + size e₁) e₂)
    → Small (bytes_from f e₁ ++ bytes_from (f + size e₁) e₂ ++ node_bytes k 0 (root_from f e₁) (root_from (f + size e₁) e₂) 0)
two_small k f e₁ e₂ h l s₁ s₂ =
    both_small (bytes_from f e₁ ++ bytes_from (f + size e₁) e₂) _ (both_small (bytes_from f e₁) _ s₁ s₂) (omega arith)

nodes_small : (e : Expr) (f : ℕ) → Fits f (nodes e) → f + size e ≤ 65536 → Small (bytes_from f e)
unfolding bytes_from
nodes_small (int n) f fits l = let u = unsigned_below n (fits.integers 0 n nth_zero) in omega arith
nodes_small (bool t) f fits l = let h = bit_small t in omega arith
nodes_small (e₁ ‹ o # i › e₂) f fits l =
    two_small (op_kind o) f e₁ e₂ (kind_small o) l
    (nodes_small e₁ f (fits_first e₁ e₂ _ fits) (omega arith)) (nodes_small e₂ (f + size e₁) (fits_second e₁ e₂ _ fits) (omega arith))
nodes_small (if e₁ then' e₂ else e₃) f fits l =
    let children = fits_left (nodes e₁ ++ nodes e₂ ++ nodes e₃) _ fits in
    both_small (bytes_from f e₁ ++ bytes_from (f + size e₁) e₂ ++ bytes_from (f + size e₁ + size e₂) e₃) _
    (both_small (bytes_from f e₁ ++ bytes_from (f + size e₁) e₂) _
    (both_small (bytes_from f e₁) _
    (nodes_small e₁ f (fits_first e₁ e₂ (nodes e₃) children) (omega arith))
    (nodes_small e₂ (f + size e₁) (fits_second e₁ e₂ (nodes e₃) children) (omega arith)))
    (nodes_small e₃ (f + size e₁ + size e₂) (fits_rest e₁ e₂ (nodes e₃) children) (omega arith)))
    (omega arith)
nodes_small (l := e) f fits h =
    let p = fits.written_locations _ l e (nth_right (nodes e) nth_zero) in
    both_small (bytes_from f e) _ (nodes_small e f (fits_left (nodes e) _ fits) (omega arith)) (omega arith)
nodes_small (! l) f fits h = let p = fits.read_locations 0 l nth_zero in omega arith
nodes_small skip f fits l = omega arith
nodes_small (e₁ ⨾ e₂) f fits l =
    two_small 8 f e₁ e₂ (omega arith) l
    (nodes_small e₁ f (fits_first e₁ e₂ _ fits) (omega arith)) (nodes_small e₂ (f + size e₁) (fits_second e₁ e₂ _ fits) (omega arith))
nodes_small (while e₁ do' e₂ done) f fits l =
    two_small 9 f e₁ e₂ (omega arith) l
    (nodes_small e₁ f (fits_first e₁ e₂ _ fits) (omega arith)) (nodes_small e₂ (f + size e₁) (fits_second e₁ e₂ _ fits) (omega arith))

pub stored_bytes : {m : ℕ} {e : Expr} → Storable m e → (k : ℕ) → byte (stored m e) k < 256
unfolding stored
stored_bytes {m} {e} s =
    let a = s.few_locations in let n = s.few_nodes in
    let body = nodes_small e 0 (storable_fits s) (omega arith) in
    small_byte (stored m e) (both_small (two_bytes (4 + 8 * size e) ++ 1 ∷ m ∷ two_bytes (size e)) (bytes_from 0 e) (omega arith) body)
