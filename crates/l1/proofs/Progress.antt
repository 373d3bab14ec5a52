-- A typed expression over a store that has its locations is not stuck: exactly one thing is next.
use Prim.Native.Nat.{ℕ, ◌≤◌}
use native.Mathlib.Nat.{lt_of_lt_of_le}
use mathlib.Core.Logic.{◌⊎◌, inl, inr}
use mathlib.Core.Path.{◌≡◌, refl}
use mathlib.Core.Bool.{true, false}
use lib.IntN.{ℤ, ◌+ℤ◌}
use lib.ListN.{length}
use Rattle.l1.specs.Syntax.{Op, plus, geq, Loc, Expr, int, ◌‹◌#◌›◌, if◌then'◌else◌, ◌:=◌, ◌⨾◌, v_int, v_bool, v_skip, Ty, ty_int, ty_bool, ty_unit}
use Rattle.l1.specs.Store.{Store, ◌∈dom◌}
use Rattle.l1.specs.Range.{InRange, OutOfRange}
use Rattle.l1.specs.Typing.{TypeEnv, ◌⊢◌∶◌, t_int, t_bool, t_op+, t_op≥, t_if, t_assign, t_deref, t_skip, t_seq, t_while}
use Rattle.l1.specs.Steps.{op+, op≥, op1, op2, deref, assign1, assign2, seq1, seq2, if1, if2, if3, while}
use Rattle.l1.specs.Overflow.{over, over_op1, over_op2, over_assign2, over_seq2, over_if3}
use Rattle.l1.specs.Next.{Act, Does, does_end, does_overflow, does_step}
use Rattle.l1.proofs.Range.{in_or_out}
use Rattle.l1.proofs.OneAct.{only_one_act}

-- the store has an entry for each declared location
abbrev pub Covers : TypeEnv → Store → Type 0
Covers Γ s = Γ.locations ≤ length s

abbrev pub SomeAct : Expr → Store → Type 0
SomeAct e s = (x : Act) × Does e s x

-- the act of two integers under an operator
numbers_act : (o : Op) (i : ℕ) (n₁ n₂ : ℤ) {s : Store} → SomeAct (int n₁ ‹ o # i › int n₂) s
numbers_act geq i n₁ n₂ = (_, does_step (op≥ refl))
numbers_act plus i n₁ n₂ {s} = go (in_or_out (n₁ +ℤ n₂))
  where
    go : InRange (n₁ +ℤ n₂) ⊎ OutOfRange (n₁ +ℤ n₂) → SomeAct (int n₁ ‹ plus # i › int n₂) s
    go (inl h) = (_, does_step (op+ refl h))
    go (inr h) = (_, does_overflow (over h))

op_act : {Γ : TypeEnv} {o : Op} {i : ℕ} {e₁ e₂ : Expr} {s : Store}
    → SomeAct e₁ s → SomeAct e₂ s → Γ ⊢ e₁ ∶ ty_int → Γ ⊢ e₂ ∶ ty_int → SomeAct (e₁ ‹ o # i › e₂) s
op_act (_, does_step d) y a b = (_, does_step (op1 d))
op_act (_, does_overflow p) y a b = (_, does_overflow (over_op1 p))
op_act (_, does_end v) (_, does_step d) a b = (_, does_step (op2 v d))
op_act (_, does_end v) (_, does_overflow p) a b = (_, does_overflow (over_op2 v p))
op_act (_, does_end v_int) (_, does_end v_int) t_int t_int = numbers_act _ _ _ _
op_act {Γ = Γ} {o = o} {i = i} {s = s} (_, does_end (v_int {n = n})) (_, does_end v_bool) a b = elim b [ ]
op_act {Γ = Γ} {o = o} {i = i} {s = s} (_, does_end (v_int {n = n})) (_, does_end v_skip) a b = elim b [ ]
op_act {Γ = Γ} {o = o} {i = i} {e₂ = e₂} {s = s} (_, does_end v_bool) (_, does_end _) a b = elim a [ ]
op_act {Γ = Γ} {o = o} {i = i} {e₂ = e₂} {s = s} (_, does_end v_skip) (_, does_end _) a b = elim a [ ]

assign_act : {Γ : TypeEnv} {l : Loc} {e : Expr} {s : Store} → l ∈dom s → SomeAct e s → Γ ⊢ e ∶ ty_int → SomeAct (l := e) s
assign_act h (_, does_step d) a = (_, does_step (assign2 d))
assign_act h (_, does_overflow p) a = (_, does_overflow (over_assign2 p))
assign_act h (_, does_end v_int) t_int = (_, does_step (assign1 h))
assign_act {Γ = Γ} {l = l} {s = s} h (_, does_end (v_bool {b = b})) a = elim a [ ]
assign_act {Γ = Γ} {l = l} {s = s} h (_, does_end v_skip) a = elim a [ ]

seq_act : {Γ : TypeEnv} {e₁ e₂ : Expr} {s : Store} → SomeAct e₁ s → Γ ⊢ e₁ ∶ ty_unit → SomeAct (e₁ ⨾ e₂) s
seq_act (_, does_step d) a = (_, does_step (seq2 d))
seq_act (_, does_overflow p) a = (_, does_overflow (over_seq2 p))
seq_act (_, does_end v_skip) t_skip = (_, does_step seq1)
seq_act {Γ = Γ} {e₂ = e₂} {s = s} (_, does_end (v_int {n = n})) a = elim a [ ]
seq_act {Γ = Γ} {e₂ = e₂} {s = s} (_, does_end (v_bool {b = b})) a = elim a [ ]

if_act : {Γ : TypeEnv} {e₁ e₂ e₃ : Expr} {s : Store} → SomeAct e₁ s → Γ ⊢ e₁ ∶ ty_bool → SomeAct (if e₁ then' e₂ else e₃) s
if_act (_, does_step d) a = (_, does_step (if3 d))
if_act (_, does_overflow p) a = (_, does_overflow (over_if3 p))
if_act (_, does_end (v_bool {b = true})) t_bool = (_, does_step if1)
if_act (_, does_end (v_bool {b = false})) t_bool = (_, does_step if2)
if_act {Γ = Γ} {e₂ = e₂} {e₃ = e₃} {s = s} (_, does_end (v_int {n = n})) a = elim a [ ]
if_act {Γ = Γ} {e₂ = e₂} {e₃ = e₃} {s = s} (_, does_end v_skip) a = elim a [ ]

pub some_act : {Γ : TypeEnv} {e : Expr} {T : Ty} {s : Store} → Covers Γ s → Γ ⊢ e ∶ T → SomeAct e s
some_act c t_int = (_, does_end v_int)
some_act c t_bool = (_, does_end v_bool)
some_act c (t_op+ a b) = op_act (some_act c a) (some_act c b) a b
some_act c (t_op≥ a b) = op_act (some_act c a) (some_act c b) a b
some_act c (t_if a b b') = if_act (some_act c a) a
some_act c (t_assign l a) = assign_act (lt_of_lt_of_le l.below c) (some_act c a) a
some_act c (t_deref l) = (_, does_step (deref (lt_of_lt_of_le l.below c) refl))
some_act c t_skip = (_, does_end v_skip)
some_act c (t_seq a b) = seq_act (some_act c a) a
some_act c (t_while a b) = (_, does_step while)

pub exactly_one_act : {Γ : TypeEnv} {e : Expr} {T : Ty} {s : Store}
    → Covers Γ s → Γ ⊢ e ∶ T → (x : Act) × Does e s x × ((y : Act) → Does e s y → y ≡ x)
exactly_one_act c a = let p = some_act c a in (p.0, p.1, λ y q. only_one_act q p.1)
