-- What an answer of the check says of the bytes: they are accepted exactly where they are the stored form of a typed tree, and refused on type
-- exactly where their tree has no type.
use Prim.Native.Nat.{ℕ, ◌≤◌, ◌<◌, ◌^◌}
use native.Mathlib.Omega.{arith}
use mathlib.Core.Path.{◌≡◌, refl}
use mathlib.Core.Logic.{◌↔◌, inl, inr}
use mathlib.Core.List.{List, []}
use Rattle.l1.specs.Syntax.{Expr, Ty}
use Rattle.l1.specs.Typing.{◌⊢◌∶◌}
use Rattle.l1.specs.Measures.{working}
use Rattle.l1.specs.Sets.{Use, reading, writing, uses, reads, writes, word}
use Rattle.l1.specs.Refused.{Node, Refused}
use Rattle.l1.proofs.Declared.{uses_declared}
use Rattle.l1.proofs.SetWords.{word_small}
use Rattle.l1.proofs.Verdict.{typed_not_refused, below_typed, refused_number, no_type_iff_refused}
use Rattle.stored.specs.Bytes.{byte}
use Rattle.stored.specs.Stored.{stored, Storable}
use Rattle.stored.specs.Stages.{no_with, given_at, given_one, FirstOf, First}
use Rattle.stored.specs.Refusals.{locations, env, Holds, checking}
use Rattle.stored.specs.Answers.{Opens, refuses, tells, Checks, check_refuses, check_tells}
use Rattle.stored.proofs.Stages.{passes_nothing}
use Rattle.stored.proofs.Opens.{headed}
use Rattle.stored.proofs.Admission.{admitted_opens, type_refused, admitted}
use Rattle.stored.proofs.Reader.{holds_unique}
use Rattle.stored.proofs.ReadBack.{tree_reads, stored_opens}
use Rattle.stored.proofs.WrittenBack.{bytes_are_stored, tree_is_storable}

-- what the check answers to bytes that open, by the tree that they hold
module _ {b : List ℕ} (ok : Opens b) {e : Expr} (h : Holds b e) where
  pub typed_accepted : {T : Ty} → env b ⊢ e ∶ T → Checks b (tells T (working e) (word (reads e)) (word (writes e)))
  typed_accepted t = check_tells (admitted ok h [] t passes_nothing) h t

  pub untyped_refused : {c i : ℕ} → Refused (env b) e c i → Checks b (refuses (no_with c i))
  untyped_refused r = check_refuses (type_refused ok h [] r)

-- a number from 20 on is given on type: of the stages before, 7 alone gives a number with something
given_on_type : {b : List ℕ} {c i : ℕ} → First (checking b) (no_with c i) → 20 ≤ c → (e : Expr) × Holds b e × Refused (env b) e c i
given_on_type {b} f l = by_stage _ _ f.of l
  where
    by_stage : (c i : ℕ) → FirstOf (checking b) (no_with c i) → 20 ≤ c → (e : Expr) × Holds b e × Refused (env b) e c i
    by_stage c i (inr (n6, (inr (n5, (inr (n4, (inr (n3, (inr (n2, (inr (n1, (inl (given_at x)))))))))))))) l = absurd (omega arith)
    by_stage c i (inr (n9, (inr (n8, (inr (n7, (inr (n6, (inr (n5, (inr (n4, (inr (n3, (inr (n2, (inr (n1, (inl (given_one x)))))))))))))))))))) l = x
    by_stage c i (inr (n9, (inr (n8, (inr (n7, (inr (n6, (inr (n5, (inr (n4, (inr (n3, (inr (n2, (inr (n1, (inr (n, none)))))))))))))))))))) l = absurd none
    by_stage c i (inl x'') l = elim x'' [ ]
    by_stage c i (inr (n6, inl x7)) l = elim x7 [ ]
    by_stage c i (inr (n6, inr (n5, inl x12))) l = elim x12 [ ]
    by_stage c i (inr (n6, inr (n5, inr (n4, inl x17)))) l = elim x17 [ ]
    by_stage c i (inr (n6, inr (n5, inr (n4, inr (n3, inl x22))))) l = elim x22 [ ]
    by_stage c i (inr (n6, inr (n5, inr (n4, inr (n3, inr (n2, inl x27)))))) l = elim x27 [ ]
    by_stage c i (inr (n9, inr (n8, inr (n7, inr (n6, inr (n5, inr (n4, inr (n3, inl x36)))))))) l = elim x36 [ ]
    by_stage c i (inr (n9, inr (n8, inr (n7, inr (n6, inr (n5, inr (n4, inr (n3, inr (n2, inl x41))))))))) l = elim x41 [ ]

-- the stored form of a tree that a routine can hold opens, and holds it
stored_opens_to : {b : List ℕ} {m : ℕ} {e : Expr} → b ≡ stored m e → Storable m e → Opens b × Holds b e
stored_opens_to {m = m} {e = e} q s = rw q (stored_opens m e s, tree_reads m e s)

-- b is the stored form of a tree that a routine can hold, of type T, with this W and these words for its two sets
abbrev pub StoredTyped : List ℕ → Ty → ℕ → ℕ → ℕ → Type 0
StoredTyped b T W R S =
    (e : Expr) × (b ≡ stored (locations b) e) × Storable (locations b) e × (env b ⊢ e ∶ T)
    × (W ≡ working e) × (R ≡ word (reads e)) × (S ≡ word (writes e))

pub accepted_iff_stored : (b : List ℕ) → ((k : ℕ) → byte b k < 256) → {T : Ty} {W R S : ℕ} → Checks b (tells T W R S) ↔ StoredTyped b T W R S
accepted_iff_stored b small = (accepted_stored, stored_accepted)
  where
    accepted_stored : {T : Ty} {W R S : ℕ} → Checks b (tells T W R S) → StoredTyped b T W R S
    accepted_stored (check_tells {e} none h t) =
        let ok = admitted_opens none in (e, bytes_are_stored b small ok h, tree_is_storable b small ok h, t, refl, refl, refl)

    stored_accepted : {T : Ty} {W R S : ℕ} → StoredTyped b T W R S → Checks b (tells T W R S)
    stored_accepted (e, q, s, t, w, r, x) = let (ok, h) = stored_opens_to q s in rw (w, r, x) (typed_accepted ok h t)

-- of 20 to 23: the rule of the node named fails, and each node below it has a type
pub refused_on_type : {b : List ℕ} {c i : ℕ} → Checks b (refuses (no_with c i)) → 20 ≤ c
    → (e : Expr) × Holds b e × Refused (env b) e c i × ((j : ℕ) (d : Expr) → j < i → Node e j d → (T : Ty) × (env b ⊢ d ∶ T))
refused_on_type (check_refuses f) h = let (e, holds, r) = given_on_type f h in (e, holds, r, λ j d. below_typed r)

pub refused_iff_untyped : {b : List ℕ} {e : Expr} → Opens b → Holds b e
    → ((c : ℕ) × (i : ℕ) × (20 ≤ c) × Checks b (refuses (no_with c i))) ↔ ¬ ((T : Ty) × (env b ⊢ e ∶ T))
refused_iff_untyped {b} {e} ok h = (
  λ (c, i, l, k) (T, t). let (e', h', r, below) = refused_on_type k l in typed_not_refused t (rw (holds_unique b h' h) at r),
  λ n. let (c, i, r) = (no_type_iff_refused (env b) e).0 n in (c, i, (refused_number r).0, untyped_refused ok h r),
)

pub sets_are_words : {b : List ℕ} {T : Ty} {W R S : ℕ} → Checks b (tells T W R S) → (R < 2 ^ 64) × (S < 2 ^ 64)
sets_are_words {b} (check_tells {e} none h t) = (small reading, small writing)
  where
    small : (u : Use) → word (uses u e) < 2 ^ 64
    small u =
        let few = (headed b (admitted_opens none)).few_locations in
        let declared = uses_declared u t in
        word_small {k = 64} (record { each = λ l m. omega (arith, (declared.each l m).below) })
