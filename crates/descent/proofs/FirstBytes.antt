-- An expression by its first bytes: each form by itself is what text_form's Parser makes of a form.
use Prim.Native.Nat.{ℕ, zero, suc, ◌+◌}
use native.Mathlib.Omega.{arith}
use mathlib.Core.Path.{◌≡◌, refl, ◌∙◌}
use mathlib.Core.Bool.{Bool, true, false, cond}
use mathlib.Core.List.{List, [], ◌∷◌}
use mathlib.Core.Logic.{◌⊎◌, inl, inr}
use mathlib.Core.Option.{Option, none, some}
use borrow.Author.Tests.{eq-eqb, ne_eqb}
use lib.Dec.{eqb}
use lib.ListN.{get_or, drop}
use Rattle.l1.specs.Text.{bytes}
use Rattle.text_form.specs.Parser.{on, front, behind, assign_head, head_of, joint_with, word_joint, sides_joint, joint_of, close_of, Parsed, noded, leaf, besides, branch_of, second_of, form_of, parse}
use Rattle.text_form.specs.Parser as p
use Rattle.descent.specs.Forms.{part_of, if_of, while_of, assign_of, sides_of}

on_on : {A B C : Type 0} (o : Option A) (f : A → Option B) (g : B → Option C) → on (on o f) g ≡ on o (λ a. on (f a) g)
on_on none f g = refl
on_on (some a) f g = refl

on_same : {A B : Type 0} (o : Option A) (f g : A → Option B) → ((a : A) → f a ≡ g a) → on o f ≡ on o g
on_same none f g h = refl
on_same (some a) f g h = h a

-- a sign is one of three
module _ (u : List ℕ) (f g : p.Joint → Option Parsed) where
  word_same : (w : List ℕ) (k : ℕ) → ((v : List ℕ) → f (joint_with k v) ≡ g (joint_with k v)) → on (word_joint w k u) f ≡ on (word_joint w k u) g
  unfolding word_joint
  word_same w k h = simp on_on (on_same (behind w u) (λ v. f (joint_with k v)) (λ v. g (joint_with k v)) h)

  either_same : (b : Bool) (x y : Option p.Joint) → on x f ≡ on x g → on y f ≡ on y g → on (cond b x y) f ≡ on (cond b x y) g
  either_same true x y h k = h
  either_same false x y h k = k

  signs_same : ((v : List ℕ) → f (joint_with 2 v) ≡ g (joint_with 2 v)) → ((v : List ℕ) → f (joint_with 3 v) ≡ g (joint_with 3 v)) → ((v : List ℕ) → f (joint_with 8 v) ≡ g (joint_with 8 v))
      → on (sides_joint u) f ≡ on (sides_joint u) g
  unfolding sides_joint
  signs_same h₂ h₃ h₈ =
      either_same (eqb (get_or u 1 256) 43) _ _ (word_same (bytes " + ") 2 h₂)
      (either_same (eqb (get_or u 1 256) 62) _ _ (word_same (bytes " >= ") 3 h₃) (word_same (bytes " ; ") 8 h₈))

behind_l : (u : List ℕ) → front u ≡ 108 → behind (bytes "l") u ≡ some (drop 1 u)
unfolding behind
behind_l [] e = absurd (omega arith)
behind_l (b ∷ u) e = rw (eq-eqb b 108 e) refl

module _ (cap : ℕ) (sub : ℕ → ℕ → List ℕ → Option Parsed) (k f : ℕ) (u : List ℕ) where
  if_is : front u ≡ 105 → form_of cap sub k f u ≡ if_of cap sub k f u
  unfolding form_of head_of joint_of word_joint second_of branch_of besides if_of part_of
  if_is e = rw e (simp on_on)

  while_is : front u ≡ 119 → form_of cap sub k f u ≡ while_of cap sub k f u
  unfolding form_of head_of joint_of word_joint second_of besides close_of p.two_parts while_of part_of
  while_is e = rw e (simp on_on)

  assign_is : front u ≡ 108 → form_of cap sub k f u ≡ assign_of cap sub k f u
  unfolding form_of head_of assign_head joint_of word_joint assign_of part_of
  assign_is e = rw (e, behind_l u e) (simp on_on)

  sides_are : (front u ≡ 105 → ⊥) → (front u ≡ 119 → ⊥) → (front u ≡ 108 → ⊥) → form_of cap sub k f u ≡ sides_of cap sub k f u
  unfolding form_of head_of joint_of second_of close_of sides_of
  sides_are n₁ n₂ n₃ =
      rw (ne_eqb (front u) 105 n₁, ne_eqb (front u) 119 n₂, ne_eqb (front u) 108 n₃)
      (on_same (sub k f u) _ _ (λ p. signs_same p.left _ _ (λ v. refl) (λ v. refl) (λ v. refl)))

-- ---- what the first byte tells, and how much may still come

module _ (cap : ℕ) (f : ℕ) (u : List ℕ) where
  pub unopened : (d k : ℕ) → (front u ≡ 40 → ⊥) → parse cap d k f u ≡ leaf cap f u
  unfolding parse
  unopened zero k n = rw (ne_eqb (front u) 40 n) refl
  unopened (suc d) zero n = rw (ne_eqb (front u) 40 n) refl
  unopened (suc d) (suc k) n = rw (ne_eqb (front u) 40 n) refl

  pub no_more : (d k : ℕ) → front u ≡ 40 → (d ≡ 0) ⊎ (k ≡ 0) → parse cap d k f u ≡ none
  unfolding parse
  no_more zero k e z = rw e refl
  no_more (suc d) zero e z = rw e refl
  no_more (suc d) (suc k) e (inl z) = absurd (omega arith)
  no_more (suc d) (suc k) e (inr z) = absurd (omega arith)

  opened : {d k : ℕ} (d' k' : ℕ) → d ≡ d' + 1 → k ≡ k' + 1 → front u ≡ 40 → parse cap d k f u ≡ form_of cap (parse cap d') k' f (drop 1 u)
  unfolding parse
  opened d' k' x y e = let a : d' + 1 ≡ suc d' = omega arith in let b : k' + 1 ≡ suc k' = omega arith in rw (x, y, a, b, e) refl

  module _ {d k : ℕ} (d' k' : ℕ) (x : d ≡ d' + 1) (y : k ≡ k' + 1) (e : front u ≡ 40) where
    pub an_if : front (drop 1 u) ≡ 105 → parse cap d k f u ≡ if_of cap (parse cap d') k' f (drop 1 u)
    an_if h = opened d' k' x y e ∙ if_is cap (parse cap d') k' f (drop 1 u) h

    pub a_while : front (drop 1 u) ≡ 119 → parse cap d k f u ≡ while_of cap (parse cap d') k' f (drop 1 u)
    a_while h = opened d' k' x y e ∙ while_is cap (parse cap d') k' f (drop 1 u) h

    pub an_assignment : front (drop 1 u) ≡ 108 → parse cap d k f u ≡ assign_of cap (parse cap d') k' f (drop 1 u)
    an_assignment h = opened d' k' x y e ∙ assign_is cap (parse cap d') k' f (drop 1 u) h

    pub two_sides : (front (drop 1 u) ≡ 105 → ⊥) → (front (drop 1 u) ≡ 119 → ⊥) → (front (drop 1 u) ≡ 108 → ⊥)
        → parse cap d k f u ≡ sides_of cap (parse cap d') k' f (drop 1 u)
    two_sides n₁ n₂ n₃ = opened d' k' x y e ∙ sides_are cap (parse cap d') k' f (drop 1 u) n₁ n₂ n₃
