-- 01, "Overflow": where `plus` would give a number out of range there is no step. `e overflows_at n` says that the next act of e is such a
-- sum, at the operator stored at node n. The places are those of the rules of 2.3 that only say where the work is done.
use Rattle.std.specs.Prelude.{ℕ, ℤ, ◌+ℤ◌}
use Rattle.l1.specs.Syntax.{Op, plus, Loc, Expr, int, ◌‹◌#◌›◌, if◌then'◌else◌, ◌:=◌, ◌⨾◌, Value}
use Rattle.l1.specs.Range.{OutOfRange}

infix 10 ◌overflows_at◌
pub data ◌overflows_at◌ : Expr → ℕ → Type 0 where
  over : {i : ℕ} {n₁ n₂ : ℤ}
      → OutOfRange (n₁ +ℤ n₂)
      → int n₁ ‹ plus # i › int n₂ overflows_at i
  over_op1 : {o : Op} {i n : ℕ} {e₁ e₂ : Expr}
      → e₁ overflows_at n
      → e₁ ‹ o # i › e₂ overflows_at n
  over_op2 : {o : Op} {i n : ℕ} {v e₂ : Expr}
      → Value v → e₂ overflows_at n
      → v ‹ o # i › e₂ overflows_at n
  over_assign2 : {l : Loc} {n : ℕ} {e : Expr}
      → e overflows_at n
      → l := e overflows_at n
  over_seq2 : {n : ℕ} {e₁ e₂ : Expr}
      → e₁ overflows_at n
      → e₁ ⨾ e₂ overflows_at n
  over_if3 : {n : ℕ} {e₁ e₂ e₃ : Expr}
      → e₁ overflows_at n
      → if e₁ then' e₂ else e₃ overflows_at n
