-- Section 2.3, "Operational semantics": ⟨e, s⟩ → ⟨e', s'⟩, one clause for each of the thirteen rules, named as there. What 01 adds: (op +) asks
-- that the sum is in range, and each step tells which rule does its work, by 01's name. The rules that only say where the work is done pass
-- that name on.
use Rattle.std.specs.Prelude.{ℕ, ◌≡◌, Bool, true, false, ℤ, ◌+ℤ◌}
use Rattle.std.specs.Int.Signed.{le_z}
use Rattle.l1.specs.Syntax.{Op, plus, geq, Loc, Expr, int, bool, ◌‹◌#◌›◌, if◌then'◌else◌, ◌:=◌, !◌, skip, ◌⨾◌, while◌do'◌done, Value}
use Rattle.l1.specs.Store.{Store, ◌∈dom◌, lookup, update}
use Rattle.l1.specs.Range.{InRange}

-- 01: the names of the rules that do work
pub data Rule : Type 0 where
  by_plus by_geq by_deref by_assign by_seq by_if_true by_if_false by_while : Rule

infix 10 ⟨◌∣◌⟩⟶⟨◌∣◌⟩◌
pub data ⟨◌∣◌⟩⟶⟨◌∣◌⟩◌ : Expr → Store → Expr → Store → Rule → Type 0 where
  op+ : {i : ℕ} {n₁ n₂ n : ℤ} {s : Store}
      → n ≡ n₁ +ℤ n₂ → InRange n
      → ⟨ int n₁ ‹ plus # i › int n₂ ∣ s ⟩⟶⟨ int n ∣ s ⟩ by_plus
  -- `le_z n₂ n₁` is the truth of n₂ ≤ n₁
  op≥ : {i : ℕ} {n₁ n₂ : ℤ} {b : Bool} {s : Store}
      → b ≡ le_z n₂ n₁
      → ⟨ int n₁ ‹ geq # i › int n₂ ∣ s ⟩⟶⟨ bool b ∣ s ⟩ by_geq
  op1 : {o : Op} {i : ℕ} {e₁ e₁' e₂ : Expr} {s s' : Store} {r : Rule}
      → ⟨ e₁ ∣ s ⟩⟶⟨ e₁' ∣ s' ⟩ r
      → ⟨ e₁ ‹ o # i › e₂ ∣ s ⟩⟶⟨ e₁' ‹ o # i › e₂ ∣ s' ⟩ r
  op2 : {o : Op} {i : ℕ} {v e₂ e₂' : Expr} {s s' : Store} {r : Rule}
      → Value v → ⟨ e₂ ∣ s ⟩⟶⟨ e₂' ∣ s' ⟩ r
      → ⟨ v ‹ o # i › e₂ ∣ s ⟩⟶⟨ v ‹ o # i › e₂' ∣ s' ⟩ r
  deref : {l : Loc} {n : ℤ} {s : Store}
      → l ∈dom s → lookup s l ≡ n
      → ⟨ ! l ∣ s ⟩⟶⟨ int n ∣ s ⟩ by_deref
  assign1 : {l : Loc} {n : ℤ} {s : Store}
      → l ∈dom s
      → ⟨ l := int n ∣ s ⟩⟶⟨ skip ∣ update s l n ⟩ by_assign
  assign2 : {l : Loc} {e e' : Expr} {s s' : Store} {r : Rule}
      → ⟨ e ∣ s ⟩⟶⟨ e' ∣ s' ⟩ r
      → ⟨ l := e ∣ s ⟩⟶⟨ l := e' ∣ s' ⟩ r
  seq1 : {e₂ : Expr} {s : Store}
      → ⟨ skip ⨾ e₂ ∣ s ⟩⟶⟨ e₂ ∣ s ⟩ by_seq
  seq2 : {e₁ e₁' e₂ : Expr} {s s' : Store} {r : Rule}
      → ⟨ e₁ ∣ s ⟩⟶⟨ e₁' ∣ s' ⟩ r
      → ⟨ e₁ ⨾ e₂ ∣ s ⟩⟶⟨ e₁' ⨾ e₂ ∣ s' ⟩ r
  if1 : {e₂ e₃ : Expr} {s : Store}
      → ⟨ if bool true then' e₂ else e₃ ∣ s ⟩⟶⟨ e₂ ∣ s ⟩ by_if_true
  if2 : {e₂ e₃ : Expr} {s : Store}
      → ⟨ if bool false then' e₂ else e₃ ∣ s ⟩⟶⟨ e₃ ∣ s ⟩ by_if_false
  if3 : {e₁ e₁' e₂ e₃ : Expr} {s s' : Store} {r : Rule}
      → ⟨ e₁ ∣ s ⟩⟶⟨ e₁' ∣ s' ⟩ r
      → ⟨ if e₁ then' e₂ else e₃ ∣ s ⟩⟶⟨ if e₁' then' e₂ else e₃ ∣ s' ⟩ r
  while : {e₁ e₂ : Expr} {s : Store}
      → ⟨ while e₁ do' e₂ done ∣ s ⟩⟶⟨ if e₁ then' (e₂ ⨾ while e₁ do' e₂ done) else skip ∣ s ⟩ by_while
