-- What the act at a node of an opened routine comes to: its value is loaded, the search goes down, a loop unfolds, or a location is read.
use Prim.Native.Nat.{ℕ, ◌+◌, ◌*◌, ◌<◌}
use native.Mathlib.Omega.{arith}
use mathlib.Core.Path.{◌≡◌, refl, sym, ◌∙◌, ap, subst}
use mathlib.Core.Bool.{Bool}
use mathlib.Core.List.{List}
use lib.IntN.{ℤ}
use lib.ListN.{length}
use Rattle.std.specs.Prelude.{Option, None, Some}
use Rattle.l1.specs.Syntax.{Expr, int, bool, if◌then'◌else◌, !◌, skip, ◌⨾◌, while◌do'◌done, Ty, ty_int, ty_bool, ty_unit}
use Rattle.l1.specs.Store.{Store, ◌∈dom◌, lookup}
use Rattle.l1.specs.Steps.{by_deref, by_while, ⟨◌∣◌⟩⟶⟨◌∣◌⟩◌, deref, while}
use Rattle.l1.specs.Typing.{TypeEnv, ◌⊢◌∶◌, t_deref, t_while}
use Rattle.l1.specs.Measures.{size, places}
use Rattle.stored.specs.Layout.{kind, arg, child1, child2, TreeAt, at_int, at_bool, at_op, at_if, at_assign, at_deref, at_skip, at_seq, at_while}
use Rattle.stored.specs.Reader.{tree_at}
use Rattle.stored.specs.Refusals.{locations, count, env}
use Rattle.routine.specs.declared.Form.{Form}
use Rattle.routine.specs.declared.Form.TheVariants.{Integer, Boolean, Plus, Geq, If, Assign, Deref, Skip, Seq, While, Unknown}
use Rattle.routine.specs.Forms.{form_of, make, Before}
use Rattle.routine.specs.Open.{Opened}
use Rattle.routine.proofs.Made.{made, before}
use Rattle.routine.proofs.Standing.{nodes_stand}
use Rattle.machine.specs.Contexts.{fill, left_to_search}
use Rattle.machine.specs.State.{expr_of, Busy, Seen, search_of, context_of, Held}
use Rattle.machine.specs.Acts.{after, HeldBy, PushedFor, written, Within, rule_of, Went, searched, worked, Loaded, Gone, NoDeref, Sought, went_down, read_there}
use Rattle.machine.specs.declared.state.Work.{Work}
use Rattle.machine.specs.declared.state.Work.TheVariants as w
use Rattle.machine.specs.declared.state.Place.{Place}
use Rattle.machine.specs.declared.state.Place.TheVariants as p
use Rattle.machine.specs.declared.state.Act.{Act}
use Rattle.machine.specs.declared.state.Act.TheVariants as a
use Rattle.machine.specs.declared.state.Rule.{Rule as Named}
use Rattle.machine.specs.declared.state.Rule.TheVariants as named
use Rattle.machine.specs.declared.state.Turn.{Turn}
use Rattle.machine.proofs.Stacks.{asks, part_typed, fill_step}

-- the act of a turn
abbrev pub Turned : List ℕ → ℕ → Expr → Store → Turn → Type 0
Turned b c e s t = Went b c e s t.work t.act t.rule

-- a loaded node after a step
pub to_node : {b : List ℕ} {c j : ℕ} {e : Expr} {s : Store} {ρ : Named} {d : Act} {t : Turn}
    → ⟨ e ∣ s ⟩⟶⟨ after b d (tree_at b j) ∣ written s d ⟩ rule_of ρ → HeldBy b d → PushedFor b d t.work → Within (length s) d → Gone b j d (Some ρ) t
    → Turned b c e s t
to_node {ρ = ρ} {d = d} {t = t} step held for within gone =
    rw (gone.act, gone.rule)
    (worked {ρ = ρ} {y = t.work} {d = d} (rw gone.loaded.same step) gone.loaded.seen held for within)

-- the turn of a work, as `comes_to` makes it
abbrev pub CameTo : Work → Act → Option Named → Turn → Type 0
CameTo y d ρ t = (t.work ≡ y) × (t.act ≡ d) × (t.rule ≡ ρ)

pub came_to : {b : List ℕ} {c : ℕ} {ρ : Option Named} {e : Expr} {s : Store} {y : Work} {d : Act} {t : Turn}
    → CameTo y d ρ t → Went b c e s y d ρ → Turned b c e s t
came_to (work, act, rule) went = rw (work, act, rule) went

-- the same value and act by other names
pub came_by : {y y' : Work} {d d' : Act} {ρ : Option Named} {t : Turn} → y ≡ y' → d ≡ d' → CameTo y d ρ t → CameTo y' d' ρ t
came_by p q (work, act, rule) = (work ∙ p, act ∙ q, rule)

pub gone_to : {b : List ℕ} {j : ℕ} {ρ : Option Named} {y : Work} {d : Act} {t : Turn} → Loaded b j y → CameTo y d ρ t → Gone b j d ρ t
gone_to {b} {j} loaded (work, act, rule) = record { loaded = subst (Loaded b j) (sym work) loaded; act = act; rule = rule }

-- the same node and act by other names
pub gone_by : {b : List ℕ} {j j' : ℕ} {ρ : Option Named} {d d' : Act} {t : Turn}
    → j ≡ j' → d ≡ d' → Gone b j d ρ t → Gone b j' d' ρ t
gone_by p q gone = record { loaded = rw (← p) gone.loaded; act = gone.act ∙ q; rule = gone.rule }

-- the same operand and place by other names
pub sought_by : {b : List ℕ} {s : Store} {j j' : ℕ} {g g' : Place} {t : Turn}
    → j ≡ j' → g ≡ g' → Sought b s j g t → Sought b s j' g' t
sought_by {b} p q (went_down other gone) = went_down (λ l e. other l (ap (tree_at b) p ∙ e)) (gone_by p (ap a.Push q) gone)
sought_by {b} p q (read_there tree h work act rule) = read_there (ap (tree_at b) (sym p) ∙ tree) h work (act ∙ ap a.Push q) rule

-- an operand that is read where the search finds it
pub reads_there : {b : List ℕ} {c l : ℕ} {e : Expr} {s : Store} {g : Place} {t : Turn}
    → e ≡ fill (context_of b g) (! l) → l ∈dom s → Held b g
    → t.work ≡ w.Int (lookup s l) → t.act ≡ a.Push g → t.rule ≡ Some named.Deref
    → Turned b c e s t
reads_there {b} {l = l} {s = s} {g = g} e h held work act rule =
    rw (work, act, rule)
    (worked {ρ = named.Deref} {y = w.Int (lookup s l)} {d = a.Push g}
    (subst (λ (x : Expr). ⟨ x ∣ s ⟩⟶⟨ fill (context_of b g) (int (lookup s l)) ∣ s ⟩ by_deref) (sym e) (fill_step (context_of b g) (deref h refl)))
    tt
    held
    (omega arith)
    tt)

pub below : {k l n : ℕ} → k ≡ l → l < n → k < n
below e h = omega arith

-- ---- what a place is pushed for

-- a test and what stands first in a sequence are no dereference, which is an int
pub no_deref_bool : {Γ : TypeEnv} {e : Expr} → Γ ⊢ e ∶ ty_bool → NoDeref e
no_deref_bool {Γ} d l q = elim (subst (λ (x : Expr). Γ ⊢ x ∶ ty_bool) q d) [ ]

pub no_deref_unit : {Γ : TypeEnv} {e : Expr} → Γ ⊢ e ∶ ty_unit → NoDeref e
no_deref_unit {Γ} d l q = elim (subst (λ (x : Expr). Γ ⊢ x ∶ ty_unit) q d) [ ]

pub test_typed : {Γ : TypeEnv} {e₁ e₂ : Expr} {T : Ty} → Γ ⊢ while e₁ do' e₂ done ∶ T → Γ ⊢ e₁ ∶ ty_bool
test_typed (t_while h₁ h₂) = h₁

-- what is no literal and no dereference has places
has_places : {b : List ℕ} {i : ℕ} {e : Expr} → TreeAt b i e → Busy (form_of (kind b i)) → NoDeref e → 0 < places e
has_places (at_int n v) busy other = absurd (rw n.its_kind at busy)
has_places (at_bool n) busy other = absurd (rw n.its_kind at busy)
has_places (at_op n p q t₁ t₂) busy other = omega arith
has_places (at_if n p q r t₁ t₂ t₃) busy other = omega arith
has_places (at_assign n p t) busy other = omega arith
has_places (at_deref n) busy other = absurd (other _ refl)
has_places (at_skip n) busy other = absurd (rw n.its_kind at busy)
has_places (at_seq n p q t₁ t₂) busy other = omega arith
has_places (at_while n p q t₁ t₂) busy other = omega arith

module _ {b : List ℕ} (ok : Opened b) where
  pub pushed_for : (y : Work) (g : Place) {j : ℕ} → Loaded b j y → NoDeref (tree_at b j) → PushedFor b (a.Push g) y
  pushed_for (w.Node i) g l other = omega (arith, has_places (nodes_stand ok.opens ok.holds i l.seen.0) l.seen.1 (λ k q. other k (sym l.same ∙ q)))
  pushed_for (w.Int n) g l other = omega arith
  pushed_for (w.Bool t) g l other = omega arith
  pushed_for w.Skip g l other = omega arith

-- a node, by its form
module _ {b : List ℕ} (ok : Opened b) {i : ℕ} (lt : i < count b) {F : Form} (q : form_of (kind b i) ≡ F) where
  pub at_form : tree_at b i ≡ make F b i (tree_at b)
  at_form = made b (nodes_stand ok.opens ok.holds i lt) ∙ ap (λ (G : Form). make G b i (tree_at b)) q

  pub kids_of : Before F b i
  kids_of = subst (λ (G : Form). Before G b i) q (before b (nodes_stand ok.opens ok.holds i lt))

  pub not_busy : Busy (form_of (kind b i)) → Busy F
  not_busy busy = subst Busy q busy

  pub load_node : Busy F → Loaded b i (w.Node i)
  load_node busy = record { same = refl; seen = (lt, subst Busy (sym q) busy); search = omega arith }

  pub load_leaf : {y : Work} → expr_of b y ≡ make F b i (tree_at b) → Seen b y → search_of b y ≡ 0 → Loaded b i y
  load_leaf e seen none = record { same = e ∙ sym at_form; seen = seen; search = omega arith }

  -- the search goes down to the node j
  pub down : {s : Store} {g : Place} {j : ℕ} {t : Turn}
      → make F b i (tree_at b) ≡ fill (context_of b g) (tree_at b j) → Held b g
      → left_to_search (context_of b g) + 2 * size (tree_at b j) < 2 * size (make F b i (tree_at b))
      → NoDeref (tree_at b j) → Gone b j (a.Push g) None t
      → Turned b (2 * size (tree_at b i)) (tree_at b i) s t
  down {g = g} {t = t} e held less other gone =
      rw (gone.act, gone.rule)
      (searched {y = t.work} {g = g}
      (ap (fill (context_of b g)) gone.loaded.same ∙ sym e ∙ sym at_form)
      gone.loaded.seen
      held
      (pushed_for ok t.work g gone.loaded other)
      (omega (arith, less, ap size at_form, gone.loaded.search)))

  -- the search goes to the operand j, or reads it
  pub seeks : {s : Store} {g : Place} {j : ℕ} {t : Turn}
      → make F b i (tree_at b) ≡ fill (context_of b g) (tree_at b j) → Held b g
      → left_to_search (context_of b g) + 2 * size (tree_at b j) < 2 * size (make F b i (tree_at b))
      → Sought b s j g t
      → Turned b (2 * size (tree_at b i)) (tree_at b i) s t
  seeks e held less (went_down other gone) = down e held less other gone
  seeks {g = g} e held less (read_there tree h work act rule) =
      reads_there (at_form ∙ e ∙ ap (fill (context_of b g)) tree) h held work act rule

  -- an operand of a node with a type has the type that its place asks
  pub operand_typed : (g : Place) {j k : ℕ}
      → j ≡ k → make F b i (tree_at b) ≡ fill (context_of b g) (tree_at b k) → ((T : Ty) × (env b ⊢ tree_at b i ∶ T))
      → env b ⊢ tree_at b j ∶ asks (context_of b g)
  operand_typed g {j} {k} q e (T, typed) =
      let whole : env b ⊢ fill (context_of b g) (tree_at b k) ∶ T = subst (λ (x : Expr). env b ⊢ x ∶ T) (at_form ∙ e) typed in
      rw q (part_typed (context_of b g) whole)

  pub typed_as : {T : Ty} → env b ⊢ tree_at b i ∶ T → env b ⊢ make F b i (tree_at b) ∶ T
  typed_as {T} typed = subst (λ (e : Expr). env b ⊢ e ∶ T) at_form typed

  -- a loop becomes its `if`
  pub unfolds : {c : ℕ} {s : Store} {t : Turn}
      → F ≡ While → child2 b i < count b → NoDeref (tree_at b (child1 b i)) → Gone b (child1 b i) (a.Push (p.Again i)) (Some named.While) t
      → Turned b c (tree_at b i) s t
  unfolds {s = s} {t = t} f held other gone =
      let z : tree_at b i ≡ while tree_at b (child1 b i) do' tree_at b (child2 b i) done = at_form ∙ rw f in
      to_node {ρ = named.While} {d = a.Push (p.Again i)}
      (subst
      (λ (e : Expr). ⟨ e ∣ s ⟩⟶⟨ if tree_at b (child1 b i) then' (tree_at b (child2 b i) ⨾ e) else skip ∣ s ⟩ by_while)
      (sym z)
      (while))
      (lt, held)
      (pushed_for ok t.work (p.Again i) gone.loaded other)
      tt
      gone

-- no literal of another type is an int
bool_no_int : {Γ : TypeEnv} {t : Bool} → Γ ⊢ bool t ∶ ty_int → ⊥
bool_no_int d = elim d [ ]

skip_no_int : {Γ : TypeEnv} → Γ ⊢ skip ∶ ty_int → ⊥
skip_no_int d = elim d [ ]

-- what has the type int is no literal but an integer
pub busy_int : {b : List ℕ} → Opened b → {i : ℕ} → i < count b → env b ⊢ tree_at b i ∶ ty_int → (form_of (kind b i) ≡ Integer → ⊥)
    → Busy (form_of (kind b i))
busy_int {b} ok {i} lt typed other = by_form _ refl
  where
    by_form : (F : Form) → form_of (kind b i) ≡ F → Busy (form_of (kind b i))
    by_form Integer q = absurd (other q)
    by_form Boolean q = absurd (bool_no_int (typed_as ok lt q typed))
    by_form Plus q = subst Busy (sym q) tt
    by_form Geq q = subst Busy (sym q) tt
    by_form If q = subst Busy (sym q) tt
    by_form Assign q = subst Busy (sym q) tt
    by_form Deref q = subst Busy (sym q) tt
    by_form Skip q = absurd (skip_no_int (typed_as ok lt q typed))
    by_form Seq q = subst Busy (sym q) tt
    by_form While q = subst Busy (sym q) tt
    by_form Unknown q = absurd (kids_of ok lt q)

deref_in : {Γ : TypeEnv} {l : ℕ} {T : Ty} → Γ ⊢ ! l ∶ T → l < Γ.locations
deref_in (t_deref declared) = declared.below

-- what has not the form of a dereference
deref_kind : {b : List ℕ} {i l : ℕ} → TreeAt b i (! l) → form_of (kind b i) ≡ Deref
deref_kind (at_deref n) = rw n.its_kind

pub no_deref_form : {b : List ℕ} → Opened b → {i : ℕ} → i < count b → (form_of (kind b i) ≡ Deref → ⊥) → NoDeref (tree_at b i)
no_deref_form {b} ok {i} lt other l q = other (deref_kind (subst (TreeAt b i) q (nodes_stand ok.opens ok.holds i lt)))

-- a dereference
module _ {b : List ℕ} (ok : Opened b) {i : ℕ} (lt : i < count b) (q : form_of (kind b i) ≡ Deref) where
  pub derefs : {c l : ℕ} {n : ℤ} {s : Store}
      → l ≡ arg b i → l ∈dom s → lookup s l ≡ n
      → Went b c (tree_at b i) s (w.Int n) a.Rest (Some named.Deref)
  derefs {n = n} {s = s} e h v =
      worked {ρ = named.Deref} {y = w.Int n} {d = a.Rest}
      (subst (λ (e : Expr). ⟨ e ∣ s ⟩⟶⟨ int n ∣ s ⟩ by_deref) (ap !◌ e ∙ sym (at_form ok lt q)) (deref h v))
      tt
      tt
      (omega arith)
      tt

  pub deref_tree : {l : ℕ} → l ≡ arg b i → tree_at b i ≡ ! l
  deref_tree e = at_form ok lt q ∙ ap !◌ (sym e)

  pub deref_below : {T : Ty} → env b ⊢ tree_at b i ∶ T → arg b i < locations b
  deref_below typed = deref_in (typed_as ok lt q typed)
