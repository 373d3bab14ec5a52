-- The computed next act is the one that the rules have: whatever is next by the rules is computed, and of a typed row what is computed is next.
use Prim.Native.Nat.{ℕ}
use mathlib.Core.Path.{◌≡◌, refl, sym, ◌∙◌}
use mathlib.Core.Option.{some, some-injective}
use borrow.Author.Tests.{lt-ltb}
use lib.IntN.{◌+ℤ◌}
use Rattle.l1.specs.Syntax.{Expr, Value, v_int, v_bool, v_skip, Ty}
use Rattle.l1.specs.Store.{Store}
use Rattle.l1.specs.Typing.{TypeEnv, ◌⊢◌∶◌}
use Rattle.l1.specs.Steps.{Rule, ⟨◌∣◌⟩⟶⟨◌∣◌⟩◌, op+, op≥, op1, op2, deref, assign1, assign2, seq1, seq2, if1, if2, if3, while}
use Rattle.l1.specs.Overflow.{◌overflows_at◌, over, over_op1, over_op2, over_assign2, over_seq2, over_if3}
use Rattle.l1.specs.Next.{Act, ends, overflows, steps, Does, does_end, does_overflow, does_step, next}
use Rattle.l1.proofs.Range.{test_in, test_out}
use Rattle.l1.proofs.Progress.{Covers, some_act}

next_of_value : {e : Expr} (s : Store) → Value e → next e s ≡ some ends
unfolding next
next_of_value s v_int = refl
next_of_value s v_bool = refl
next_of_value s v_skip = refl

next_of_step : {r : Rule} {e e' : Expr} {s s' : Store} → ⟨ e ∣ s ⟩⟶⟨ e' ∣ s' ⟩ r → next e s ≡ some (steps r e' s')
unfolding next
next_of_step (op+ {n = n} q h) = rw (← q, test_in n h)
next_of_step (op≥ q) = rw q
next_of_step (op1 d) = rw (next_of_step d)
next_of_step (op2 v d) = rw (next_of_value _ v, next_of_step d)
next_of_step (deref h q) = rw (lt-ltb _ _ h, q)
next_of_step (assign1 h) = rw (lt-ltb _ _ h)
next_of_step (assign2 d) = rw (next_of_step d)
next_of_step seq1 = refl
next_of_step (seq2 d) = rw (next_of_step d)
next_of_step if1 = refl
next_of_step if2 = refl
next_of_step (if3 d) = rw (next_of_step d)
next_of_step while = refl

next_of_overflow : {e : Expr} {n : ℕ} (s : Store) → e overflows_at n → next e s ≡ some (overflows n)
unfolding next
next_of_overflow s (over {n₁ = a} {n₂ = b} h) = rw (test_out (a +ℤ b) h)
next_of_overflow s (over_op1 p) = rw (next_of_overflow s p)
next_of_overflow s (over_op2 v p) = rw (next_of_value s v, next_of_overflow s p)
next_of_overflow s (over_assign2 p) = rw (next_of_overflow s p)
next_of_overflow s (over_seq2 p) = rw (next_of_overflow s p)
next_of_overflow s (over_if3 p) = rw (next_of_overflow s p)

pub does_computed : {e : Expr} {s : Store} {x : Act} → Does e s x → next e s ≡ some x
does_computed {s = s} (does_end v) = next_of_value s v
does_computed {s = s} (does_overflow p) = next_of_overflow s p
does_computed (does_step d) = next_of_step d

pub computed_does : {Γ : TypeEnv} {e : Expr} {T : Ty} {s : Store} {x : Act} → Covers Γ s → Γ ⊢ e ∶ T → next e s ≡ some x → Does e s x
computed_does {s = s} c a q =
    let p = some_act {s = s} c a in
    rw (some-injective _ _ (sym q ∙ does_computed p.1)) p.1
