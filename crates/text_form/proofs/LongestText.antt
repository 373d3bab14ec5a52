-- The text of a tree that a routine can hold has less than 14 bytes for each node: loops whose parts are loops and the lowest integer come to 14 less 3 in all.
use Prim.Native.Nat.{ℕ, suc, ◌+◌, ◌*◌, ◌≤◌}
use native.Mathlib.Omega.{arith}
use mathlib.Core.Bool.{true, false}
use lib.IntN.{pos, negsuc}
use lib.ListN.{length, length-append}
use Rattle.l1.specs.Syntax.{plus, geq, Expr, int, bool, ◌‹◌#◌›◌, if◌then'◌else◌, ◌:=◌, !◌, skip, ◌⨾◌, while◌do'◌done}
use Rattle.l1.specs.Measures.{size}
use Rattle.l1.specs.Text.{decimal, text}
use Rattle.l1.proofs.Decimal.{decimal_length}
use Rattle.text_form.specs.Small.{Small}

ten_digits : (n : ℕ) → n ≤ 2147483648 → length (decimal n) ≤ 10
ten_digits n h = decimal_length n 10 (omega arith) (omega arith)

three_digits : (n : ℕ) → n ≤ 255 → length (decimal n) ≤ 3
three_digits n h = decimal_length n 3 (omega arith) (omega arith)

pub bytes_by_nodes : (e : Expr) → Small e → length (text e) + 3 ≤ 14 * size e
unfolding text
bytes_by_nodes (int (pos n)) s = omega (arith, ten_digits n (omega arith))
bytes_by_nodes (int (negsuc n)) s = omega (arith, ten_digits (suc n) (omega arith))
bytes_by_nodes (bool true) s = omega arith
bytes_by_nodes (bool false) s = omega arith
bytes_by_nodes (e₁ ‹ plus # i › e₂) (s, t) = simp length-append (omega (arith, bytes_by_nodes e₁ s, bytes_by_nodes e₂ t))
bytes_by_nodes (e₁ ‹ geq # i › e₂) (s, t) = simp length-append (omega (arith, bytes_by_nodes e₁ s, bytes_by_nodes e₂ t))
bytes_by_nodes (if e₁ then' e₂ else e₃) (s, t, u) =
    simp length-append (omega (arith, bytes_by_nodes e₁ s, bytes_by_nodes e₂ t, bytes_by_nodes e₃ u))
bytes_by_nodes (l := e) (h, s) = simp length-append (omega (arith, three_digits l h, bytes_by_nodes e s))
bytes_by_nodes (! l) s = omega (arith, three_digits l s)
bytes_by_nodes skip s = omega arith
bytes_by_nodes (e₁ ⨾ e₂) (s, t) = simp length-append (omega (arith, bytes_by_nodes e₁ s, bytes_by_nodes e₂ t))
bytes_by_nodes (while e₁ do' e₂ done) (s, t) = simp length-append (omega (arith, bytes_by_nodes e₁ s, bytes_by_nodes e₂ t))
