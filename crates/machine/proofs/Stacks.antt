-- Steps, overflows and types through the contexts, and how many contexts an expression on the run of a row can have.
use Prim.Native.Nat.{ℕ, ◌+◌, ◌≤◌}
use native.Mathlib.Omega.{arith}
use mathlib.Core.List.{List, [], ◌∷◌}
use lib.ListN.{length}
use Rattle.l1.specs.Syntax.{plus, geq, Expr, v_int, Ty, ty_int, ty_bool, ty_unit}
use Rattle.l1.specs.Store.{Store}
use Rattle.l1.specs.Typing.{TypeEnv, ◌⊢◌∶◌, t_op+, t_op≥, t_if, t_assign, t_seq}
use Rattle.l1.specs.Steps.{Rule, ⟨◌∣◌⟩⟶⟨◌∣◌⟩◌, op1, op2, assign2, seq2, if3}
use Rattle.l1.specs.Overflow.{◌overflows_at◌, over_op1, over_op2, over_assign2, over_seq2, over_if3}
use Rattle.l1.specs.Run.{Run}
use Rattle.l1.specs.Measures.{places}
use Rattle.l1.proofs.Places.{run_adds_no_places}
use Rattle.machine.specs.Contexts.{Context, in_op1, in_op2, in_if3, in_assign2, in_seq2, fill, plug}

pub fill_step : (f : Context) {r : Rule} {e e' : Expr} {s s' : Store} → ⟨ e ∣ s ⟩⟶⟨ e' ∣ s' ⟩ r → ⟨ fill f e ∣ s ⟩⟶⟨ fill f e' ∣ s' ⟩ r
fill_step (in_op1 i o e₂) d = op1 d
fill_step (in_op2 i o n) d = op2 v_int d
fill_step (in_if3 e₂ e₃) d = if3 d
fill_step (in_assign2 l) d = assign2 d
fill_step (in_seq2 e₂) d = seq2 d

pub plug_step : (k : List Context) {r : Rule} {e e' : Expr} {s s' : Store} → ⟨ e ∣ s ⟩⟶⟨ e' ∣ s' ⟩ r → ⟨ plug k e ∣ s ⟩⟶⟨ plug k e' ∣ s' ⟩ r
plug_step [] d = d
plug_step (f ∷ k) d = plug_step k (fill_step f d)

fill_overflow : (f : Context) {e : Expr} {n : ℕ} → e overflows_at n → fill f e overflows_at n
fill_overflow (in_op1 i o e₂) p = over_op1 p
fill_overflow (in_op2 i o n) p = over_op2 v_int p
fill_overflow (in_if3 e₂ e₃) p = over_if3 p
fill_overflow (in_assign2 l) p = over_assign2 p
fill_overflow (in_seq2 e₂) p = over_seq2 p

pub plug_overflow : (k : List Context) {e : Expr} {n : ℕ} → e overflows_at n → plug k e overflows_at n
plug_overflow [] p = p
plug_overflow (f ∷ k) p = plug_overflow k (fill_overflow f p)

-- the type that a context asks of the part at work
abbrev pub asks : Context → Ty
asks (in_op1 i o e₂) = ty_int
asks (in_op2 i o n) = ty_int
asks (in_if3 e₂ e₃) = ty_bool
asks (in_assign2 l) = ty_int
asks (in_seq2 e₂) = ty_unit

pub part_typed : {Γ : TypeEnv} {T : Ty} (f : Context) {e : Expr} → Γ ⊢ fill f e ∶ T → Γ ⊢ e ∶ asks f
part_typed (in_op1 i plus e₂) (t_op+ a b) = a
part_typed (in_op1 i geq e₂) (t_op≥ a b) = a
part_typed (in_op2 i plus n) (t_op+ a b) = b
part_typed (in_op2 i geq n) (t_op≥ a b) = b
part_typed (in_if3 e₂ e₃) (t_if a b c) = a
part_typed (in_assign2 l) (t_assign h a) = a
part_typed (in_seq2 e₂) (t_seq a b) = a

pub plug_typed : {Γ : TypeEnv} {T : Ty} (k : List Context) (e : Expr) → Γ ⊢ plug k e ∶ T → (U : Ty) × (Γ ⊢ e ∶ U)
plug_typed {T = T} [] e a = (T, a)
plug_typed (f ∷ k) e a = let (U, b) = plug_typed k (fill f e) a in (asks f, part_typed f b)

fill_places : (f : Context) (e : Expr) → 1 + places e ≤ places (fill f e)
fill_places (in_op1 i o e₂) e = omega arith
fill_places (in_op2 i o n) e = omega arith
fill_places (in_if3 e₂ e₃) e = omega arith
fill_places (in_assign2 l) e = omega arith
fill_places (in_seq2 e₂) e = omega arith

plug_places : (k : List Context) (e : Expr) → length k + places e ≤ places (plug k e)
plug_places [] e = omega arith
plug_places (f ∷ k) e = omega (arith, plug_places k (fill f e), fill_places f e)

-- the contexts of an expression on the run of a row, with the places of the part at work, are no more than the row's places
pub stack_fits : {T K : ℕ} {e : Expr} {s s' : Store} (k : List Context) (e' : Expr) → Run T K e s (plug k e') s' → length k + places e' ≤ places e
stack_fits k e' ds = omega (arith, plug_places k e', run_adds_no_places ds)
