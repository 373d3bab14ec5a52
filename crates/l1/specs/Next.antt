-- What an expression does next, as one thing with three cases; and the same computed, `next`. proofs/Next.antt has both directions.
use Rattle.std.specs.Prelude.{ℕ, Bool, true, false, cond, ◌&&◌, ltb, ℤ, ◌+ℤ◌, length}
use Rattle.std.proofs.Math.Option.{Option, none, some}
use Rattle.std.specs.Int.Signed.{le_z}
use Rattle.l1.specs.Syntax.{Op, plus, geq, Loc, Expr, int, bool, ◌‹◌#◌›◌, if◌then'◌else◌, ◌:=◌, !◌, skip, ◌⨾◌, while◌do'◌done, Value}
use Rattle.l1.specs.Store.{Store, lookup, update}
use Rattle.l1.specs.Range.{int_min, int_max}
use Rattle.l1.specs.Steps.{Rule, by_plus, by_geq, by_deref, by_assign, by_seq, by_if_true, by_if_false, by_while, ⟨◌∣◌⟩⟶⟨◌∣◌⟩◌}
use Rattle.l1.specs.Overflow.{◌overflows_at◌}

pub data Act : Type 0 where
  ends : Act
  overflows : ℕ → Act
  steps : Rule → Expr → Store → Act

-- `Does e s x`: of ⟨e, s⟩, x is next. (Nothing here says that there is one such x, or only one.)
pub data Does (e : Expr) (s : Store) : Act → Type 0 where
  does_end : Value e → Does e s ends
  does_overflow : {n : ℕ} → e overflows_at n → Does e s (overflows n)
  does_step : {r : Rule} {e' : Expr} {s' : Store} → ⟨ e ∣ s ⟩⟶⟨ e' ∣ s' ⟩ r → Does e s (steps r e' s')

-- which value an expression is, if it is one
pub data Which : Type 0 where
  is_int : ℤ → Which
  is_bool : Bool → Which
  is_skip : Which
  is_none : Which

abbrev pub which : Expr → Which
which (int n) = is_int n
which (bool b) = is_bool b
which (e₁ ‹ o # i › e₂) = is_none
which (if e₁ then' e₂ else e₃) = is_none
which (l := e) = is_none
which (! l) = is_none
which skip = is_skip
which (e₁ ⨾ e₂) = is_none
which (while e₁ do' e₂ done) = is_none

abbrev pub in_range : ℤ → Bool
in_range n = le_z int_min n && le_z n int_max

-- the act of a form whose parts are values; `none` where no rule is for them
abbrev pub op_act : Op → ℕ → Which → Which → Store → Option Act
op_act plus i (is_int n₁) (is_int n₂) s = cond (in_range (n₁ +ℤ n₂)) (some (steps by_plus (int (n₁ +ℤ n₂)) s)) (some (overflows i))
op_act geq i (is_int n₁) (is_int n₂) s = some (steps by_geq (bool (le_z n₂ n₁)) s)
op_act o i (is_int n₁) (is_bool b) s = none
op_act o i (is_int n₁) is_skip s = none
op_act o i (is_int n₁) is_none s = none
op_act o i (is_bool b) y s = none
op_act o i is_skip y s = none
op_act o i is_none y s = none

abbrev pub if_act : Which → Expr → Expr → Store → Option Act
if_act (is_int n) e₂ e₃ s = none
if_act (is_bool true) e₂ e₃ s = some (steps by_if_true e₂ s)
if_act (is_bool false) e₂ e₃ s = some (steps by_if_false e₃ s)
if_act is_skip e₂ e₃ s = none
if_act is_none e₂ e₃ s = none

abbrev pub assign_act : Loc → Which → Store → Option Act
assign_act l (is_int n) s = cond (ltb l (length s)) (some (steps by_assign skip (update s l n))) none
assign_act l (is_bool b) s = none
assign_act l is_skip s = none
assign_act l is_none s = none

abbrev pub seq_act : Which → Expr → Store → Option Act
seq_act (is_int n) e₂ s = none
seq_act (is_bool b) e₂ s = none
seq_act is_skip e₂ s = some (steps by_seq e₂ s)
seq_act is_none e₂ s = none

-- the act of a part is the whole's, in its place f; where the part has ended, `rest` is
abbrev pub within : (Expr → Expr) → Option Act → Option Act → Option Act
within f (some ends) rest = rest
within f (some (overflows n)) rest = some (overflows n)
within f (some (steps r e s)) rest = some (steps r (f e) s)
within f none rest = none

-- `none`: no rule applies, and no sum overflows
unfoldable pub next : Expr → Store → Option Act
next (int n) s = some ends
next (bool b) s = some ends
next (e₁ ‹ o # i › e₂) s = within (λ x. x ‹ o # i › e₂) (next e₁ s) (within (λ x. e₁ ‹ o # i › x) (next e₂ s) (op_act o i (which e₁) (which e₂) s))
next (if e₁ then' e₂ else e₃) s = within (λ x. if x then' e₂ else e₃) (next e₁ s) (if_act (which e₁) e₂ e₃ s)
next (l := e) s = within (λ x. l := x) (next e s) (assign_act l (which e) s)
next (! l) s = cond (ltb l (length s)) (some (steps by_deref (int (lookup s l)) s)) none
next skip s = some ends
next (e₁ ⨾ e₂) s = within (λ x. x ⨾ e₂) (next e₁ s) (seq_act (which e₁) e₂ s)
next (while e₁ do' e₂ done) s = some (steps by_while (if e₁ then' (e₂ ⨾ while e₁ do' e₂ done) else skip) s)
