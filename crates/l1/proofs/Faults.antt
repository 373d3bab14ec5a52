-- `fault` is the lowest number by which the rule of a form fails, where its children have types; and the first fault of a list.
use Prim.Native.Nat.{ℕ, zero, suc, ◌+◌, ◌≤◌, ◌<◌}
use native.Mathlib.Nat.{add-zero, suc-add, add-suc, eq-zero-or-pos}
use native.Mathlib.Omega.{arith}
use mathlib.Core.Path.{◌≡◌, refl, sym, ap, ◌∙◌}
use mathlib.Core.Logic.{⊎_elim}
use mathlib.Core.Bool.{Bool, true, false, cond}
use mathlib.Core.List.{List, [], ◌∷◌}
use lib.Dec.{eqb, ltb}
use lib.ListN.{length}
use borrow.Author.Tests.{ltb-true, ltb-false, eqb-true, eqb-false}
use Rattle.l1.specs.Syntax.{Op, plus, geq, Loc, Expr, int, bool, ◌‹◌#◌›◌, if◌then'◌else◌, ◌:=◌, !◌, skip, ◌⨾◌, while◌do'◌done}
use Rattle.l1.specs.Syntax.{Ty, ty_int, ty_bool, ty_unit}
use Rattle.l1.specs.Typing.{TypeEnv, ◌declares◌, ◌⊢◌∶◌, t_int, t_bool, t_op+, t_op≥, t_if, t_assign, t_deref, t_skip, t_seq, t_while}
use Rattle.l1.specs.Refused.{Nth, nth_zero, nth_suc, Fails, undeclared_assign, undeclared_deref, first_op, first_if, first_assign, first_seq}
use Rattle.l1.specs.Refused.{first_while, second_op, second_while, branches_if, Verdict, refused}
use Rattle.l1.specs.Judge.{rule_type, type_no, wants, declared, fault, unless_fault, first_fault}
use Rattle.l1.proofs.Nodes.{children, Each, nil, ◌and◌}
use Rattle.l1.proofs.TypeUnique.{typed_rule}

-- the type that has a number
type_of_number : ℕ → Ty
type_of_number zero = ty_int
type_of_number (suc zero) = ty_bool
type_of_number (suc (suc n)) = ty_unit

type_of_type_no : (T : Ty) → type_of_number (type_no T) ≡ T
unfolding type_of_number
type_of_type_no ty_int = refl
type_of_type_no ty_bool = refl
type_of_type_no ty_unit = refl

pub type_no_unique : {T T' : Ty} → type_no T ≡ type_no T' → T ≡ T'
type_no_unique {T} {T'} q = sym (type_of_type_no T) ∙ ap type_of_number q ∙ type_of_type_no T'

-- what the two tests of `fault` decide
wants_cases : (P : ℕ → Type 0) (T : Ty) (e : Expr) (c rest : ℕ) → (rule_type e ≡ T → P rest) → (¬ (rule_type e ≡ T) → P c) → P (wants T e c rest)
wants_cases P T e c rest kept broken = go (eqb (type_no (rule_type e)) (type_no T)) refl
  where
    go : (b : Bool) → eqb (type_no (rule_type e)) (type_no T) ≡ b → P (cond b rest c)
    go true q = kept (type_no_unique (eqb-true _ _ q))
    go false q = broken (λ r. eqb-false _ _ q (ap type_no r))

declared_cases : (P : ℕ → Type 0) (Γ : TypeEnv) (l : Loc) (rest : ℕ) → (Γ declares l → P rest) → (¬ (Γ declares l) → P 20) → P (declared Γ l rest)
declared_cases P Γ l rest known unknown = go (ltb l Γ.locations) refl
  where
    go : (b : Bool) → ltb l Γ.locations ≡ b → P (cond b rest 20)
    go true q = known (record { below = ltb-true _ _ q })
    go false q = unknown (λ d. let h = ltb-false l Γ.locations q in omega arith)

wants_kept : {Γ : TypeEnv} {e : Expr} {T : Ty} → Γ ⊢ e ∶ T → (c rest : ℕ) → wants T e c rest ≡ rest
wants_kept {e} {T} t c rest = wants_cases (λ x. x ≡ rest) T e c rest (λ _. refl) (λ n. absurd (n (sym (typed_rule t))))

wants_broken : {Γ : TypeEnv} {e : Expr} {T T' : Ty} → Γ ⊢ e ∶ T → ¬ (T ≡ T') → (c rest : ℕ) → wants T' e c rest ≡ c
wants_broken {e} {T'} t n c rest = wants_cases (λ x. x ≡ c) T' e c rest (λ q. absurd (n (typed_rule t ∙ q))) (λ _. refl)

declared_kept : {Γ : TypeEnv} {l : Loc} → Γ declares l → (rest : ℕ) → declared Γ l rest ≡ rest
declared_kept {Γ} {l} d rest = declared_cases (λ x. x ≡ rest) Γ l rest (λ _. refl) (λ n. absurd (n d))

declared_broken : {Γ : TypeEnv} {l : Loc} → ¬ (Γ declares l) → (rest : ℕ) → declared Γ l rest ≡ 20
declared_broken {Γ} {l} n rest = declared_cases (λ x. x ≡ 20) Γ l rest (λ d. absurd (n d)) (λ _. refl)

pub fails_number : {Γ : TypeEnv} {e : Expr} {c : ℕ} → Fails Γ e c → (20 ≤ c) × (c ≤ 23)
fails_number (undeclared_assign n) = omega arith
fails_number (undeclared_deref n) = omega arith
fails_number (first_op a n) = omega arith
fails_number (first_if a n) = omega arith
fails_number (first_assign a n) = omega arith
fails_number (first_seq a n) = omega arith
fails_number (first_while a n) = omega arith
fails_number (second_op b n) = omega arith
fails_number (second_while b n) = omega arith
fails_number (branches_if b c n) = omega arith

abbrev UpTo : ℕ → ℕ → Type 0
UpTo k c = (0 < c) × (c ≤ k)

-- a rule that fails by k has a fault, and by no more than k
pub fails_fault : {Γ : TypeEnv} {e : Expr} {k : ℕ} → Fails Γ e k → (0 < fault Γ e) × (fault Γ e ≤ k)
unfolding fault
fails_fault (undeclared_assign n) = rw (declared_broken n) (omega arith)
fails_fault (undeclared_deref n) = rw (declared_broken n) (omega arith)
fails_fault (first_op a n) = rw (wants_broken a n) (omega arith)
fails_fault (first_if a n) = rw (wants_broken a n) (omega arith)
fails_fault {Γ} (first_assign {l} a n) = rw (wants_broken a n) (declared_cases (UpTo 21) Γ l 21 (λ _. omega arith) (λ _. omega arith))
fails_fault (first_seq a n) = rw (wants_broken a n) (omega arith)
fails_fault (first_while a n) = rw (wants_broken a n) (omega arith)
fails_fault (second_op {e₁} b n) = rw (wants_broken b n) (wants_cases (UpTo 22) ty_int e₁ 21 22 (λ _. omega arith) (λ _. omega arith))
fails_fault (second_while {e₁} b n) = rw (wants_broken b n) (wants_cases (UpTo 22) ty_bool e₁ 21 22 (λ _. omega arith) (λ _. omega arith))
fails_fault (branches_if {e₁} b c n) =
    rw (← typed_rule b, wants_broken c (λ q. n (sym q))) (wants_cases (UpTo 23) ty_bool e₁ 21 23 (λ _. omega arith) (λ _. omega arith))

-- the rule of a typed form does not fail
pub typed_fault : {Γ : TypeEnv} {e : Expr} {T : Ty} → Γ ⊢ e ∶ T → fault Γ e ≡ 0
unfolding fault
typed_fault t_int = refl
typed_fault t_bool = refl
typed_fault (t_op+ a b) = rw (wants_kept a, wants_kept b)
typed_fault (t_op≥ a b) = rw (wants_kept a, wants_kept b)
typed_fault (t_if a b c) = rw (wants_kept a, ← typed_rule b, wants_kept c)
typed_fault (t_assign d a) = rw (declared_kept d, wants_kept a)
typed_fault (t_deref d) = rw (declared_kept d)
typed_fault t_skip = refl
typed_fault (t_seq a b) = rw (wants_kept a)
typed_fault (t_while a b) = rw (wants_kept a, wants_kept b)

pub typed_keeps : {Γ : TypeEnv} {e : Expr} {T : Ty} {c : ℕ} → Γ ⊢ e ∶ T → ¬ Fails Γ e c
typed_keeps t f = omega (arith, fails_fault f, typed_fault t)

-- and the other way, where the children have types: by its fault the rule gives the type of the form, or it fails
pub data Ruled (Γ : TypeEnv) (e : Expr) : ℕ → Type 0 where
  keeps : Γ ⊢ e ∶ rule_type e → Ruled Γ e 0
  breaks : {c : ℕ} → Fails Γ e c → Ruled Γ e c

op_typed : {Γ : TypeEnv} {i : ℕ} {e₁ e₂ : Expr} (o : Op) → Γ ⊢ e₁ ∶ ty_int → Γ ⊢ e₂ ∶ ty_int → Γ ⊢ e₁ ‹ o # i › e₂ ∶ rule_type (e₁ ‹ o # i › e₂)
unfolding rule_type
op_typed plus a b = t_op+ a b
op_typed geq a b = t_op≥ a b

pub ruled : (Γ : TypeEnv) (e : Expr) → Each (λ c. Γ ⊢ c ∶ rule_type c) (children e) → Ruled Γ e (fault Γ e)
unfolding fault rule_type
ruled Γ (int n) nil = keeps t_int
ruled Γ (bool b) nil = keeps t_bool
ruled Γ (e₁ ‹ o # i › e₂) (a and b and nil) =
    wants_cases (Ruled Γ _) ty_int e₁ 21 _
    (λ q. wants_cases (Ruled Γ _) ty_int e₂ 22 0 (λ r. keeps (op_typed o (rw q at a) (rw r at b))) (λ n. breaks (second_op b n)))
    (λ n. breaks (first_op a n))
ruled Γ (if e₁ then' e₂ else e₃) (a and b and c and nil) =
    wants_cases (Ruled Γ _) ty_bool e₁ 21 _
    (λ q. wants_cases (Ruled Γ _) (rule_type e₂) e₃ 23 0 (λ r. keeps (t_if (rw q at a) b (rw r at c))) (λ n. breaks (branches_if b c λ r. n (sym r))))
    (λ n. breaks (first_if a n))
ruled Γ (l := e) (a and nil) =
    declared_cases (Ruled Γ _) Γ l _
    (λ d. wants_cases (Ruled Γ _) ty_int e 21 0 (λ q. keeps (t_assign d (rw q at a))) (λ n. breaks (first_assign a n)))
    (λ n. breaks (undeclared_assign n))
ruled Γ (! l) nil = declared_cases (Ruled Γ _) Γ l 0 (λ d. keeps (t_deref d)) (λ n. breaks (undeclared_deref n))
ruled Γ skip nil = keeps t_skip
ruled Γ (e₁ ⨾ e₂) (a and b and nil) = wants_cases (Ruled Γ _) ty_unit e₁ 21 0 (λ q. keeps (t_seq (rw q at a) b)) (λ n. breaks (first_seq a n))
ruled Γ (while e₁ do' e₂ done) (a and b and nil) =
    wants_cases (Ruled Γ _) ty_bool e₁ 21 _
    (λ q. wants_cases (Ruled Γ _) ty_unit e₂ 22 0 (λ r. keeps (t_while (rw q at a) (rw r at b))) (λ n. breaks (second_while b n)))
    (λ n. breaks (first_while a n))

pub ruled_typed : {Γ : TypeEnv} {e : Expr} {c : ℕ} → Ruled Γ e c → ((k : ℕ) → ¬ Fails Γ e k) → Γ ⊢ e ∶ rule_type e
ruled_typed (keeps t) n = t
ruled_typed (breaks {c} f) n = absurd (n c f)

pub ruled_fails : {Γ : TypeEnv} {e : Expr} {c : ℕ} → Ruled Γ e c → 0 < c → Fails Γ e c
ruled_fails (keeps t) h = absurd (omega arith)
ruled_fails (breaks f) h = f

-- no element below n has a fault
abbrev pub Clear : TypeEnv → List Expr → ℕ → Type 0
Clear Γ ds n = (j : ℕ) (d : Expr) → j < n → Nth ds j d → fault Γ d ≡ 0

unless_found : (c i : ℕ) (v : Verdict) → 0 < c → unless_fault c i v ≡ refused c i
unless_found zero i v h = absurd (omega arith)
unless_found (suc c) i v h = refl

module _ (Γ : TypeEnv) where
  clear_rest : {d : Expr} {ds : List Expr} {n : ℕ} → Clear Γ (d ∷ ds) (suc n) → Clear Γ ds n
  clear_rest h j b l m = h (suc j) b (omega arith) (nth_suc m)

  clear_more : {d : Expr} {ds : List Expr} {n : ℕ} → fault Γ d ≡ 0 → Clear Γ ds n → Clear Γ (d ∷ ds) (suc n)
  clear_more q h j b l nth_zero = q
  clear_more q h j b l (nth_suc {i} m) = h i b (omega arith) m

  -- `first_fault` finds an element that has a fault where none below it has
  pub first_fault_at : {ds : List Expr} {d : Expr} {n c : ℕ} (i : ℕ) (v : Verdict)
      → Nth ds n d → fault Γ d ≡ c → 0 < c → Clear Γ ds n
      → first_fault Γ ds i v ≡ refused c (i + n)
  unfolding first_fault
  first_fault_at i v nth_zero q p h = rw (q, add-zero) (unless_found _ i _ p)
  first_fault_at i v (nth_suc {c} m) q p h = rw (h 0 c (omega arith) nth_zero, add-suc, ← suc-add) (first_fault_at (suc i) v m q p (clear_rest h))

  pub first_fault_none : (ds : List Expr) (i : ℕ) (v : Verdict) → Clear Γ ds (length ds) → first_fault Γ ds i v ≡ v
  unfolding first_fault
  first_fault_none [] i v h = refl
  first_fault_none (d ∷ ds) i v h = rw (h 0 d (omega arith) nth_zero) (first_fault_none ds (suc i) v (clear_rest h))

  -- there is such an element, or there is no fault
  pub data Searched (ds : List Expr) : Type 0 where
    found : (n : ℕ) (d : Expr) → Nth ds n d → 0 < fault Γ d → Clear Γ ds n → Searched ds
    nowhere : Clear Γ ds (length ds) → Searched ds

  search_rest : {d : Expr} {ds : List Expr} → fault Γ d ≡ 0 → Searched ds → Searched (d ∷ ds)
  search_rest q (found n d m p h) = found (suc n) d (nth_suc m) p (clear_more q h)
  search_rest q (nowhere h) = nowhere (clear_more q h)

  pub search_list : (ds : List Expr) → Searched ds
  search_list [] = nowhere (λ j d l m. elim m [ ])
  search_list (d ∷ ds) =
      let here : 0 < fault Γ d → Searched (d ∷ ds) = λ p. found 0 d nth_zero p (λ j b l m. absurd (omega arith)) in
      ⊎_elim (λ q. search_rest q (search_list ds)) here (eq-zero-or-pos (fault Γ d))
