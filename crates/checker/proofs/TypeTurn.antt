-- A turn of the type check's loop: by the table of types, the fault and the type of the next node; and what the loop's two ends say.
use Prim.Native.Nat.{ℕ, ◌+◌, ◌-◌, ◌≤◌, ◌<◌}
use native.Mathlib.Omega.{arith}
use mathlib.Core.Path.{◌≡◌, refl, sym, ◌∙◌, ap}
use mathlib.Core.List.{List}
use Rattle.std.specs.Prelude.{Some, None}
use lib.ListN.{length, get_or, set}
use lib.Seq.{get_or-set_same, get_or-set_other}
use borrow.Author.Count.{below_more}
use Rattle.l1.specs.Syntax.{plus, geq, Expr}
use Rattle.l1.specs.Refused.{nodes}
use Rattle.l1.specs.Judge.{rule_type, type_no, fault}
use Rattle.l1.proofs.Nodes.{nth_unique}
use Rattle.l1.proofs.Faults.{Clear, type_no_unique}
use Rattle.l1.proofs.Verdict.{fault_refused, clear_typed}
use Rattle.stored.specs.Layout.{TreeAt, at_int, at_bool, at_op, at_if, at_assign, at_deref, at_skip, at_seq, at_while}
use Rattle.stored.specs.Reader.{tree_at}
use Rattle.stored.specs.Refusals.{locations, count, env}
use Rattle.stored.proofs.Reader.{read_tree_lem}
use Rattle.routine.specs.Forms.{node_of}
use Rattle.routine.specs.Open.{root_of, Opened}
use Rattle.routine.specs.declared.Node.{Node}
use Rattle.routine.specs.declared.Refusal.{Refusal}
use Rattle.opener.specs.Tables.{Covers}
use Rattle.checker.specs.Rules.{type_of, no_of, seen, found_fault, found_type}
use Rattle.checker.specs.Says.{FaultSays, HasType, Faulty}
use Rattle.checker.specs.declared.Ty as Code
use Rattle.checker.specs.declared.Ty.TheVariants.{Int}
use Rattle.routine.proofs.Standing.{is_headed, root_size, nodes_stand, root_nodes}

-- what is known of a node that was passed
pub record Passed (b : List ℕ) (types : List Code.Ty) (j : ℕ) : Type 0 where
  pub clear : fault (env b) (tree_at b j) ≡ 0
  pub typed : type_of (get_or types j Int) ≡ rule_type (tree_at b j)

-- .. is what the rules say of the tree e
abbrev Right : List ℕ → (ℕ → ℕ) → ℕ → Expr → Type 0
Right b s i e = (found_fault (locations b) s (node_of b i) ≡ fault (env b) e) × (found_type s (node_of b i) ≡ type_no (rule_type e))

-- s tells the type of each node before i
abbrev TypesOf : List ℕ → ℕ → (ℕ → ℕ) → Type 0
TypesOf b i s = (j : ℕ) → j < i → s j ≡ type_no (rule_type (tree_at b j))

module _ (b : List ℕ) (s : ℕ → ℕ) where
  child : {i j : ℕ} {e : Expr} → TypesOf b i s → j < i → TreeAt b j e → s j ≡ type_no (rule_type e)
  child {j = j} past l t = past j l ∙ ap (λ (x : Expr). type_no (rule_type x)) (read_tree_lem b (j + 1) t (omega arith))

  turn : {i : ℕ} {e : Expr} → TypesOf b i s → TreeAt b i e → Right b s i e
  unfolding fault rule_type
  turn past (at_int n v) = rw n.its_kind (refl, refl)
  turn past (at_bool n) = rw n.its_kind (refl, refl)
  turn past (at_op {o = plus} n p q t₁ t₂) =
      rw (n.its_kind, n.its_first, n.its_second, child past (omega arith) t₁, child past (omega arith) t₂) (refl, refl)
  turn past (at_op {o = geq} n p q t₁ t₂) =
      rw (n.its_kind, n.its_first, n.its_second, child past (omega arith) t₁, child past (omega arith) t₂) (refl, refl)
  turn past (at_if n p q r t₁ t₂ t₃) =
      rw (n.its_kind, n.its_first, n.its_second, n.its_third)
      (rw (child past (omega arith) t₁, child past (omega arith) t₂, child past (omega arith) t₃) (refl, refl))
  turn past (at_assign n p t) = rw (n.its_kind, n.its_arg, n.its_first, child past (omega arith) t) (refl, refl)
  turn past (at_deref n) = rw (n.its_kind, n.its_arg) (refl, refl)
  turn past (at_skip n) = rw n.its_kind (refl, refl)
  turn past (at_seq n p q t₁ t₂) =
      rw (n.its_kind, n.its_first, n.its_second, child past (omega arith) t₁, child past (omega arith) t₂) (refl, refl)
  turn past (at_while n p q t₁ t₂) =
      rw (n.its_kind, n.its_first, n.its_second, child past (omega arith) t₁, child past (omega arith) t₂) (refl, refl)

module _ {b : List ℕ} {types : List Code.Ty} {i : ℕ} (o : Opened b) (low : Covers (length types) (count b))
    (past : (j : ℕ) → j < i → Passed b types j) where
  clear_below : (k : ℕ) → k ≤ i → k ≤ count b → Clear (env b) (nodes (root_of b)) k
  clear_below k h h' j d l n = rw (nth_unique n (root_nodes o.opens o.holds j (omega arith))) (past j (omega arith)).clear

  -- a turn
  module _ (l : i < count b) {d : Node} (read : d ≡ node_of b i) {m : ℕ} (declared : m ≡ locations b) where
    right : Right b (seen types) i (tree_at b i)
    right = turn b (seen types) (λ j k. rw (low j (omega arith)) (ap type_no (past j k).typed)) (nodes_stand o.opens o.holds i l)

    its_fault : found_fault m (seen types) d ≡ fault (env b) (tree_at b i)
    its_fault = rw (declared, read) right.0

    -- with a fault: the refusal
    pub faulty : (r : Refusal) → FaultSays (found_fault m (seen types) d) i (Some r) → Faulty b r
    faulty r (some, is) =
        let q = its_fault in (
          _,
          i,
          fault_refused (root_of b) (root_nodes o.opens o.holds i l) (omega arith) (clear_below i (omega arith) (omega arith)),
          rw q at is,
        )

    -- without: the node is passed with its type
    pub clear : FaultSays (found_fault m (seen types) d) i None → fault (env b) (tree_at b i) ≡ 0
    clear none = sym its_fault ∙ none

    pub passed : FaultSays (found_fault m (seen types) d) i None → (t : Code.Ty) → no_of t ≡ found_type (seen types) d → i < length types
        → (j : ℕ) → j < i + 1 → Passed b (set types i t) j
    passed none t q room =
        below_more _ _
        (λ j m. record { clear = (past j m).clear; typed = ap type_of (get_or-set_other types i j t Int (omega arith)) ∙ (past j m).typed })
        (record { clear = clear none; typed = ap type_of (get_or-set_same types i t Int room) ∙ type_no_unique (q ∙ rw read right.1) })

  -- all n nodes are passed: the root has the type that the table's last entry tells
  pub all_passed : {n : ℕ} → n ≡ count b → n ≤ i → HasType b × (type_of (get_or types (n - 1) Int) ≡ rule_type (root_of b))
  all_passed all h =
      let s = root_size o.opens o.holds in
      let some = (is_headed o.opens o.holds).some_nodes in
      (clear_typed (root_of b) (clear_below _ (omega arith) (omega arith)), rw all (past (count b - 1) (omega arith)).typed)
