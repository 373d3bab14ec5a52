-- Where a tree stands in the bytes, each of its nodes stands too.
use Prim.Native.Nat.{ℕ, ◌+◌, ◌≤◌}
use native.Mathlib.Omega.{arith}
use mathlib.Core.Path.{◌≡◌, refl}
use mathlib.Core.Logic.{⊎_elim}
use mathlib.Core.List.{List, [], ◌∷◌, ◌++◌}
use lib.ListN.{length, length-append}
use Rattle.l1.specs.Syntax.{Expr}
use Rattle.l1.specs.Measures.{size}
use Rattle.l1.specs.Refused.{nodes, Nth, nth_zero, nth_suc}
use Rattle.l1.proofs.Nodes.{nth_append, nodes_length}
use Rattle.stored.specs.Layout.{TreeAt, at_int, at_bool, at_op, at_if, at_assign, at_deref, at_skip, at_seq, at_while}

-- the trees ds stand at the nodes from f on
pub record Stand (b : List ℕ) (f : ℕ) (ds : List Expr) : Type 0 where
  pub stands : (i : ℕ) (d : Expr) → Nth ds i d → TreeAt b (f + i) d

module _ (b : List ℕ) where
  -- no tree has more nodes than stand up to its root
  pub size_fits : {i : ℕ} {e : Expr} → TreeAt b i e → size e ≤ i + 1
  size_fits (at_int n v) = omega arith
  size_fits (at_bool n) = omega arith
  size_fits (at_op n p q t₁ t₂) = let h = size_fits t₁ in omega arith
  size_fits (at_if n p q r t₁ t₂ t₃) = let h = size_fits t₁ in omega arith
  size_fits (at_assign n p t) = let h = size_fits t in omega arith
  size_fits (at_deref n) = omega arith
  size_fits (at_skip n) = omega arith
  size_fits (at_seq n p q t₁ t₂) = let h = size_fits t₁ in omega arith
  size_fits (at_while n p q t₁ t₂) = let h = size_fits t₁ in omega arith

  one_stands : {f i : ℕ} {d : Expr} → f ≡ i → TreeAt b i d → Stand b f (d ∷ [])
  one_stands {f} {i} {d} e t = record { stands = λ j c h. alone h }
    where
      alone : {j : ℕ} {c : Expr} → Nth (d ∷ []) j c → TreeAt b (f + j) c
      alone nth_zero = let q : f + 0 ≡ i = omega arith in rw q t
      alone {c = c} (nth_suc x5) = elim x5 [ ]

  both_stand : (ds cs : List Expr) {f g : ℕ} → f + length ds ≡ g → Stand b f ds → Stand b g cs → Stand b f (ds ++ cs)
  both_stand ds cs {f} {g} e s t = record {
    stands = λ i d h.
        ⊎_elim (s.stands i d) (λ (k, q, m). let p : f + i ≡ g + k = omega arith in rw p (t.stands k d m)) (nth_append ds cs h);
  }

  two_stand : (e₁ e₂ : Expr) {e : Expr} {f i : ℕ} → f + size e₁ + size e₂ ≡ i
      → Stand b f (nodes e₁) → Stand b (f + size e₁) (nodes e₂) → TreeAt b i e → Stand b f (nodes e₁ ++ nodes e₂ ++ e ∷ [])
  two_stand e₁ e₂ h s₁ s₂ t =
      let l₁ = nodes_length e₁ in let l₂ = nodes_length e₂ in
      both_stand (nodes e₁ ++ nodes e₂) _ (simp length-append (omega arith))
      (both_stand (nodes e₁) (nodes e₂) (omega arith) s₁ s₂)
      (one_stands refl t)

  pub subtrees : {r : ℕ} {e : Expr} → TreeAt b r e → (f : ℕ) → f + size e ≡ r + 1 → Stand b f (nodes e)
  subtrees (at_int n v) f h = one_stands (omega arith) (at_int n v)
  subtrees (at_bool n) f h = one_stands (omega arith) (at_bool n)
  subtrees (at_op {e₁ = e₁} {e₂ = e₂} n p q t₁ t₂) f h =
      two_stand e₁ e₂ (omega arith) (subtrees t₁ f (omega arith)) (subtrees t₂ (f + size e₁) (omega arith)) (at_op n p q t₁ t₂)
  subtrees (at_if {e₁ = e₁} {e₂ = e₂} {e₃ = e₃} n p q r t₁ t₂ t₃) f h =
      let l₁ = nodes_length e₁ in let l₂ = nodes_length e₂ in let l₃ = nodes_length e₃ in
      both_stand (nodes e₁ ++ nodes e₂ ++ nodes e₃) _ (simp length-append (omega arith))
      (both_stand (nodes e₁ ++ nodes e₂) (nodes e₃) (simp length-append (omega arith))
      (both_stand (nodes e₁) (nodes e₂) (omega arith) (subtrees t₁ f (omega arith)) (subtrees t₂ (f + size e₁) (omega arith)))
      (subtrees t₃ (f + size e₁ + size e₂) (omega arith)))
      (one_stands refl (at_if n p q r t₁ t₂ t₃))
  subtrees (at_assign {e = e} n p t) f h =
      let l = nodes_length e in both_stand (nodes e) _ (omega arith) (subtrees t f (omega arith)) (one_stands refl (at_assign n p t))
  subtrees (at_deref n) f h = one_stands (omega arith) (at_deref n)
  subtrees (at_skip n) f h = one_stands (omega arith) (at_skip n)
  subtrees (at_seq {e₁ = e₁} {e₂ = e₂} n p q t₁ t₂) f h =
      two_stand e₁ e₂ (omega arith) (subtrees t₁ f (omega arith)) (subtrees t₂ (f + size e₁) (omega arith)) (at_seq n p q t₁ t₂)
  subtrees (at_while {e₁ = e₁} {e₂ = e₂} n p q t₁ t₂) f h =
      two_stand e₁ e₂ (omega arith) (subtrees t₁ f (omega arith)) (subtrees t₂ (f + size e₁) (omega arith)) (at_while n p q t₁ t₂)
