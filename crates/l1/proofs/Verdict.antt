-- A tree has a type, or it is refused on type by one number at one node, never both; `verdict` computes which.
use Prim.Native.Nat.{ℕ, ◌+◌, ◌≤◌, ◌<◌}
use native.Mathlib.Nat.{zero-add}
use native.Mathlib.Omega.{arith}
use mathlib.Core.Path.{◌≡◌, refl, sym, ap}
use mathlib.Core.Logic.{◌↔◌}
use Rattle.l1.specs.Syntax.{Expr, Ty}
use Rattle.l1.specs.Measures.{size}
use Rattle.l1.specs.Typing.{TypeEnv, ◌⊢◌∶◌, t_int, t_bool, t_op+, t_op≥, t_if, t_assign, t_deref, t_skip, t_seq, t_while}
use Rattle.l1.specs.Refused.{nodes, Node, Fails, Refused, Verdict, typed, refused, Judged, has_type, has_none}
use Rattle.l1.specs.Judge.{rule_type, fault, verdict}
use Rattle.l1.proofs.Nodes.{nth_unique, nodes_length, node_below, children, sizes, size_children, Among, child_size, child_root, root_stands}
use Rattle.l1.proofs.Nodes.{Standing, at_root, in_child, node_standing, Each, nil, ◌and◌, each_among, among_each, by_children, subtree_nodes}
use Rattle.l1.proofs.TypeUnique.{type_unique}
use Rattle.l1.proofs.Faults.{fails_number, fails_fault, typed_keeps, ruled, ruled_typed, ruled_fails, Clear, first_fault_at, first_fault_none}
use Rattle.l1.proofs.Faults.{Searched, found, nowhere, search_list}

typed_children : {Γ : TypeEnv} {e : Expr} {T : Ty} → Γ ⊢ e ∶ T → Each (λ c. (T' : Ty) × (Γ ⊢ c ∶ T')) (children e)
typed_children t_int = nil
typed_children t_bool = nil
typed_children (t_op+ a b) = (_, a) and (_, b) and nil
typed_children (t_op≥ a b) = (_, a) and (_, b) and nil
typed_children (t_if a b c) = (_, a) and (_, b) and (_, c) and nil
typed_children (t_assign d a) = (_, a) and nil
typed_children (t_deref d) = nil
typed_children t_skip = nil
typed_children (t_seq a b) = (_, a) and (_, b) and nil
typed_children (t_while a b) = (_, a) and (_, b) and nil

abbrev AllTyped : TypeEnv → Expr → Type 0
AllTyped Γ e = (T : Ty) (i : ℕ) (d : Expr) → Γ ⊢ e ∶ T → Node e i d → (T' : Ty) × (Γ ⊢ d ∶ T')

typed_standing : {Γ : TypeEnv} {e d : Expr} {T : Ty} {i : ℕ} → Each (AllTyped Γ) (children e) → Γ ⊢ e ∶ T → Standing e i d → (T' : Ty) × (Γ ⊢ d ∶ T')
typed_standing {T} h t (at_root q) = (T, t)
typed_standing h t (in_child {k} {d} a n) = let (T', t') = each_among (typed_children t) a in each_among h a T' k d t' n

-- each node of a typed tree has a type
pub typed_nodes : {Γ : TypeEnv} {e d : Expr} {T : Ty} {i : ℕ} → Γ ⊢ e ∶ T → Node e i d → (T' : Ty) × (Γ ⊢ d ∶ T')
typed_nodes {Γ} {e} {d} {T} {i} t n = by_children (AllTyped Γ) (λ x h T i d t n. typed_standing h t (node_standing x n)) e T i d t n

pub typed_not_refused : {Γ : TypeEnv} {e : Expr} {T : Ty} {c i : ℕ} → Γ ⊢ e ∶ T → Refused Γ e c i → ⊥
typed_not_refused t r = typed_keeps (typed_nodes t r.stands).1 r.fails

-- no rule of a node below i fails
abbrev Unfailing : TypeEnv → Expr → ℕ → Type 0
Unfailing Γ e i = (j : ℕ) (d : Expr) (k : ℕ) → j < i → Node e j d → ¬ Fails Γ d k

unfailing_part : {Γ : TypeEnv} (e : Expr) {i j : ℕ} {d : Expr} → Unfailing Γ e i → j < i → Node e j d → Unfailing Γ d (size d)
unfailing_part e u l n = let (f, q, w) = subtree_nodes e n in λ k c m g s. u (f + k) c m (omega arith) (w k c s)

unfailing_typed : (Γ : TypeEnv) (e : Expr) → Unfailing Γ e (size e) → Γ ⊢ e ∶ rule_type e
unfailing_typed Γ = by_children (λ x. Unfailing Γ x (size x) → Γ ⊢ x ∶ rule_type x) step
  where
    step : (x : Expr) → Each (λ c. Unfailing Γ c (size c) → Γ ⊢ c ∶ rule_type c) (children x) → Unfailing Γ x (size x) → Γ ⊢ x ∶ rule_type x
    step x h u =
        ruled_typed
        (ruled Γ x (among_each (children x) (λ f c a. each_among h a (unfailing_part x u (node_below x (child_root x a)) (child_root x a)))))
        (λ k. u (sizes (children x)) x k (node_below x (root_stands x)) (root_stands x))

unfailing_below : {Γ : TypeEnv} (e : Expr) {i j : ℕ} {d : Expr} → Unfailing Γ e i → j < i → Node e j d → Γ ⊢ d ∶ rule_type d
unfailing_below e u l n = unfailing_typed _ _ (unfailing_part e u l n)

-- 01: "All nodes below it in number then have a type"
pub below_typed : {Γ : TypeEnv} {e d : Expr} {c i j : ℕ} → Refused Γ e c i → j < i → Node e j d → (T : Ty) × (Γ ⊢ d ∶ T)
below_typed {e} {d} r l n = (rule_type d, unfailing_below e r.lowest_node l n)

node_not_lower : {Γ : TypeEnv} {e : Expr} {c c' i i' : ℕ} → Refused Γ e c i → Refused Γ e c' i' → ¬ (i < i')
node_not_lower {c} {i} r r' l = r'.lowest_node i r.failing c l r.stands r.fails

number_not_lower : {Γ : TypeEnv} {e : Expr} {c c' i : ℕ} → Refused Γ e c i → Refused Γ e c' i → ¬ (c < c')
number_not_lower {c} r r' l = r'.lowest_number c l (rw (nth_unique r.stands r'.stands) at r.fails)

pub refused_unique : {Γ : TypeEnv} {e : Expr} {c c' i i' : ℕ} → Refused Γ e c i → Refused Γ e c' i' → (c ≡ c') × (i ≡ i')
refused_unique {Γ} {e} {c'} {i} {i'} r r' =
    let q : i' ≡ i = omega (arith, node_not_lower r r', node_not_lower r' r) in
    let s : Refused Γ e c' i = rw q at r' in
    (omega (arith, number_not_lower r s, number_not_lower s r), sym q)

pub refused_number : {Γ : TypeEnv} {e : Expr} {c i : ℕ} → Refused Γ e c i → (20 ≤ c) × (c ≤ 23)
refused_number r = fails_number r.fails

pub refused_node : {Γ : TypeEnv} {e : Expr} {c i : ℕ} → Refused Γ e c i → i < size e
refused_node {e} r = node_below e r.stands

-- without a fault below i no rule fails there
clear_unfailing : {Γ : TypeEnv} (e : Expr) {i : ℕ} → Clear Γ (nodes e) i → Unfailing Γ e i
clear_unfailing e h j d k l n f = omega (arith, fails_fault f, h j d l n)

pub clear_typed : {Γ : TypeEnv} (e : Expr) → Clear Γ (nodes e) (size e) → Γ ⊢ e ∶ rule_type e
clear_typed {Γ} e h = unfailing_typed Γ e (clear_unfailing e h)

pub fault_refused : {Γ : TypeEnv} (e : Expr) {d : Expr} {i : ℕ} → Node e i d → 0 < fault Γ d → Clear Γ (nodes e) i → Refused Γ e (fault Γ d) i
fault_refused {Γ} e {d} {i} n p h =
    record {
      failing = d;
      stands = n;
      fails = ruled_fails (ruled Γ d (among_each (children d) child_typed)) p;
      lowest_node = clear_unfailing e h;
      lowest_number = λ k l f. omega (arith, fails_fault f);
    }
  where
    child_typed : (f : ℕ) (c : Expr) → Among (children d) f c → Γ ⊢ c ∶ rule_type c
    child_typed f c a =
        let (g, q, w) = subtree_nodes e n in
        unfailing_below e (clear_unfailing e h) (omega (arith, child_size d a, size_children c)) (w (f + sizes (children c)) c (child_root d a))

pub verdict_clear : (Γ : TypeEnv) (e : Expr) → Clear Γ (nodes e) (size e) → verdict Γ e ≡ typed (rule_type e)
unfolding verdict
verdict_clear Γ e h = first_fault_none Γ (nodes e) 0 (typed (rule_type e)) (rw nodes_length h)

pub verdict_at : (Γ : TypeEnv) (e : Expr) {d : Expr} {i c : ℕ} → Node e i d → fault Γ d ≡ c → 0 < c → Clear Γ (nodes e) i → verdict Γ e ≡ refused c i
unfolding verdict
verdict_at Γ e n q p h = rw zero-add at (first_fault_at Γ 0 (typed (rule_type e)) n q p h)

pub verdict_judged : (Γ : TypeEnv) (e : Expr) → Judged Γ e (verdict Γ e)
verdict_judged Γ e = by_search (search_list Γ (nodes e))
  where
    by_search : Searched Γ (nodes e) → Judged Γ e (verdict Γ e)
    by_search (found i d n p h) = rw (verdict_at Γ e n refl p h) (has_none (fault_refused e n p h))
    by_search (nowhere h) = let c : Clear Γ (nodes e) (size e) = rw nodes_length at h in rw (verdict_clear Γ e c) (has_type (clear_typed e c))

pub judged_unique : {Γ : TypeEnv} {e : Expr} {v v' : Verdict} → Judged Γ e v → Judged Γ e v' → v ≡ v'
judged_unique (has_type t) (has_type t') = ap typed (type_unique t t')
judged_unique (has_type t) (has_none r) = absurd (typed_not_refused t r)
judged_unique (has_none r) (has_type t) = absurd (typed_not_refused t r)
judged_unique (has_none r) (has_none r') = let (p, q) = refused_unique r r' in rw (p, q)

pub judged_verdict : {Γ : TypeEnv} {e : Expr} {v : Verdict} → Judged Γ e v → v ≡ verdict Γ e
judged_verdict {Γ} {e} j = judged_unique j (verdict_judged Γ e)

-- a tree is refused on type exactly where the rules give it none
pub no_type_iff_refused : (Γ : TypeEnv) (e : Expr) → (¬ ((T : Ty) × (Γ ⊢ e ∶ T))) ↔ ((c : ℕ) × (i : ℕ) × Refused Γ e c i)
no_type_iff_refused Γ e = (λ n. by_verdict n (verdict_judged Γ e), λ (c, i, r) (T, t). typed_not_refused t r)
  where
    by_verdict : {v : Verdict} → ¬ ((T : Ty) × (Γ ⊢ e ∶ T)) → Judged Γ e v → (c : ℕ) × (i : ℕ) × Refused Γ e c i
    by_verdict n (has_type {T} t) = absurd (n (T, t))
    by_verdict n (has_none {c} {i} r) = (c, i, r)
