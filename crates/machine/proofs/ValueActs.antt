-- What a value in the place on top comes to, by the place.
use Prim.Native.Nat.{ℕ, ◌≤◌, ◌<◌}
use native.Mathlib.Omega.{arith}
use mathlib.Core.Path.{◌≡◌, refl, sym, subst}
use mathlib.Core.Bool.{Bool, true, false}
use mathlib.Core.List.{List}
use lib.IntN.{ℤ}
use lib.ListN.{length}
use lib.Signed.{le_z}
use Rattle.std.specs.Prelude.{Some}
use Rattle.l1.specs.Syntax.{Op, Expr, int, bool, ◌‹◌#◌›◌, if◌then'◌else◌, ◌:=◌, skip, ◌⨾◌, Ty, ty_int, ty_bool, ty_unit}
use Rattle.l1.specs.Store.{Store}
use Rattle.l1.specs.Typing.{TypeEnv, ◌⊢◌∶◌, t_op+, t_op≥, t_if, t_assign, t_seq}
use Rattle.l1.specs.Steps.{op≥, assign1, seq1, if1, if2}
use Rattle.stored.specs.Layout.{child2, child3}
use Rattle.stored.specs.Reader.{tree_at}
use Rattle.stored.specs.Refusals.{locations, env}
use Rattle.routine.specs.Open.{Opened}
use Rattle.machine.specs.Contexts.{Context, in_op1, in_op2, fill, left_to_search}
use Rattle.machine.specs.State.{expr_of, takes_of, number_of, truth_of, context_of, Held}
use Rattle.machine.specs.Acts.{searched, worked, Gone, Sought, went_down, read_there, Summed}
use Rattle.machine.specs.declared.state.Work.{Work}
use Rattle.machine.specs.declared.state.Work.TheVariants as w
use Rattle.machine.specs.declared.state.Place.{Place}
use Rattle.machine.specs.declared.state.Place.TheVariants as p
use Rattle.machine.specs.declared.state.Act.TheVariants as a
use Rattle.machine.specs.declared.state.Rule.TheVariants as named
use Rattle.machine.specs.declared.state.Turn.{Turn}
use Rattle.machine.proofs.Stacks.{asks, part_typed}
use Rattle.machine.proofs.NodeActs.{Turned, to_node, no_deref_unit, pushed_for, reads_there, CameTo, came_to}

assigned : {Γ : TypeEnv} {l : ℕ} {e : Expr} {T : Ty} → Γ ⊢ l := e ∶ T → l < Γ.locations
assigned (t_assign d h) = d.below

right_typed : {Γ : TypeEnv} {o : Op} {i : ℕ} {e₁ e₂ : Expr} {T : Ty} → Γ ⊢ e₁ ‹ o # i › e₂ ∶ T → Γ ⊢ e₂ ∶ ty_int
right_typed (t_op+ h h') = h'
right_typed (t_op≥ h h') = h'

-- the body of a loop, which waits in an `if`
body_typed : {Γ : TypeEnv} {e e₁ e₂ e₃ : Expr} {T : Ty} → Γ ⊢ if e then' (e₁ ⨾ e₂) else e₃ ∶ T → Γ ⊢ e₁ ∶ ty_unit
body_typed (t_if h (t_seq h₁ h₂) h₃) = h₁

-- the right operand of what stands in the place f is an int
pub right_operand_typed : (b : List ℕ) (f : Place) (e : Expr) {i j k : ℕ} {o : Op}
    → j ≡ k → context_of b f ≡ in_op1 i o (tree_at b k) → ((T : Ty) × (env b ⊢ fill (context_of b f) e ∶ T))
    → env b ⊢ tree_at b j ∶ ty_int
right_operand_typed b f e q c (T, typed) = rw q (right_typed (subst (λ (x : Context). env b ⊢ fill x e ∶ T) c typed))

-- the value of a type that a work is
abbrev value_of : Ty → Work → Expr
value_of ty_int y = int (number_of y)
value_of ty_bool y = bool (truth_of y)
value_of ty_unit y = skip

typed_value : {Γ : TypeEnv} (b : List ℕ) (T : Ty) (y : Work) → takes_of y ≡ 1 → Γ ⊢ expr_of b y ∶ T → expr_of b y ≡ value_of T y
typed_value b T (w.Node i) h t = absurd (omega arith)
typed_value b ty_int (w.Int n) h t = refl
typed_value b ty_int (w.Bool u) h t = elim t [ ]
typed_value b ty_int w.Skip h t = elim t [ ]
typed_value b ty_bool (w.Int n) h t = elim t [ ]
typed_value b ty_bool (w.Bool u) h t = refl
typed_value b ty_bool w.Skip h t = elim t [ ]
typed_value b ty_unit (w.Int n) h t = elim t [ ]
typed_value b ty_unit (w.Bool u) h t = elim t [ ]
typed_value b ty_unit w.Skip h t = refl

-- the value y fills the place f, and its type is the one that the place asks for
pub record Filled (b : List ℕ) (f : Place) (y : Work) : Type 0 where
  pub held : Held b f
  pub type : Ty
  pub typed : env b ⊢ fill (context_of b f) (expr_of b y) ∶ type
  pub value : expr_of b y ≡ value_of (asks (context_of b f)) y

-- the turn of the value y in the place f
abbrev pub Comes : List ℕ → Place → Work → Store → Turn → Type 0
Comes b f y s t = Turned b (left_to_search (context_of b f)) (fill (context_of b f) (expr_of b y)) s t

-- where the place f is known to be g
pub in_place : (b : List ℕ) (y : Work) {f g : Place} {s : Store} {t : Turn}
    → f ≡ g → (takes_of y ≡ 1) × Held b f × (locations b ≤ length s) × ((T : Ty) × (env b ⊢ fill (context_of b f) (expr_of b y) ∶ T))
    → (Filled b g y → Comes b g y s t)
    → Comes b f y s t
in_place b y {f} {s = s} {t = t} q (one, held, covered, (T, typed)) comes =
    let value = typed_value b (asks (context_of b f)) y one (part_typed (context_of b f) typed) in
    let filled : Filled b f y = record { held = held; type = T; typed = typed; value = value } in
    subst (λ (g : Place). Comes b g y s t) (sym q) (comes (subst (λ (g : Place). Filled b g y) q filled))

module _ {b : List ℕ} {y : Work} {s : Store} {t : Turn} where
  -- the search goes from the left operand to the right
  pub across : {f g : Place} {i j : ℕ} {o : Op}
      → Opened b → Filled b f y → context_of b f ≡ in_op1 i o (tree_at b j) → context_of b g ≡ in_op2 i o (number_of y) → Held b g → Sought b s j g t
      → Comes b f y s t
  across {f} {g} ok v q q' held (went_down other gone) =
      let z : expr_of b y ≡ int (number_of y) = rw q at v.value in
      let same : fill (context_of b g) (expr_of b t.work) ≡ fill (context_of b f) (expr_of b y) = rw (q, q', z, gone.loaded.same) in
      rw (gone.act, gone.rule)
      (searched {y = t.work} {g = g} same gone.loaded.seen held (pushed_for ok t.work g gone.loaded other) (rw (q, q') (omega (arith, gone.loaded.search))))
  across {f} {g} ok v q q' held (read_there tree h work act rule) =
      let z : expr_of b y ≡ int (number_of y) = rw q at v.value in
      reads_there (rw (q, q', z, tree) refl) h held work act rule

  pub adds : {i : ℕ} {n n₁ n₂ : ℤ}
      → Filled b (p.PlusRight i n) y → n₁ ≡ n → n₂ ≡ number_of y → Summed i n₁ n₂ t
      → Comes b (p.PlusRight i n) y s t
  adds v q₁ q₂ sum = rw (v.value, ← q₁, ← q₂) (sum.went b 0 s)

  pub compares : {i : ℕ} {n n₁ n₂ : ℤ} {u : Bool}
      → Filled b (p.GeqRight i n) y → n₁ ≡ n → n₂ ≡ number_of y → u ≡ le_z n₂ n₁ → CameTo (w.Bool u) a.Rest (Some named.Geq) t
      → Comes b (p.GeqRight i n) y s t
  compares {u = u} v q₁ q₂ q came =
      came_to came (worked {ρ = named.Geq} {y = w.Bool u} {d = a.Rest} (rw (v.value, ← q₁, ← q₂) (op≥ q)) tt tt (omega arith) tt)

  pub chooses_true : {i : ℕ} → Filled b (p.Test i) y → truth_of y ≡ true → Gone b (child2 b i) a.Rest (Some named.IfTrue) t → Comes b (p.Test i) y s t
  chooses_true v q gone = to_node {ρ = named.IfTrue} {d = a.Rest} (rw (v.value, q) if1) tt (omega arith) tt gone

  pub chooses_false : {i : ℕ} → Filled b (p.Test i) y → truth_of y ≡ false → Gone b (child3 b i) a.Rest (Some named.IfFalse) t → Comes b (p.Test i) y s t
  chooses_false v q gone = to_node {ρ = named.IfFalse} {d = a.Rest} (rw (v.value, q) if2) tt (omega arith) tt gone

  -- a loop's test
  pub repeats : {i : ℕ} → Opened b → Filled b (p.Again i) y → truth_of y ≡ true → Gone b (child2 b i) (a.Push (p.First i)) (Some named.IfTrue) t → Comes b (p.Again i) y s t
  repeats {i} ok v q gone =
      let for = pushed_for ok t.work (p.First i) gone.loaded (no_deref_unit (body_typed v.typed)) in
      to_node {ρ = named.IfTrue} {d = a.Push (p.First i)} (rw (v.value, q) if1) v.held.0 for tt gone

  pub leaves : {i : ℕ} → Filled b (p.Again i) y → truth_of y ≡ false → CameTo w.Skip a.Rest (Some named.IfFalse) t → Comes b (p.Again i) y s t
  leaves v q came = came_to came (worked {ρ = named.IfFalse} {y = w.Skip} {d = a.Rest} (rw (v.value, q) if2) tt tt (omega arith) tt)

  pub stores : {l : ℕ} {n : ℤ}
      → Filled b (p.Store l) y → locations b ≤ length s → n ≡ number_of y → CameTo w.Skip (a.Write l n) (Some named.Assign) t
      → Comes b (p.Store l) y s t
  stores {l} {n} v covered q came =
      let h : l < length s = omega (arith, assigned v.typed) in
      came_to came (worked {ρ = named.Assign} {y = w.Skip} {d = a.Write l n} (rw (v.value, ← q) (assign1 h)) tt tt (omega arith) h)

  pub goes_on : {j : ℕ} → Filled b (p.First j) y → Gone b j a.Rest (Some named.Seq) t → Comes b (p.First j) y s t
  goes_on v gone = to_node {ρ = named.Seq} {d = a.Rest} (rw v.value seq1) tt (omega arith) tt gone

-- a work that is no node is a value
pub is_value : (y : Work) → ((i : ℕ) → y ≡ w.Node i → ⊥) → takes_of y ≡ 1
is_value (w.Node i) q = absurd (q i refl)
is_value (w.Int n) q = refl
is_value (w.Bool u) q = refl
is_value w.Skip q = refl
