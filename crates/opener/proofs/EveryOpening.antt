-- Opening answers every list of bytes: a refusal, or m and n. With `opening_unique` there is exactly one answer.
use Prim.Native.Nat.{ℕ, zero, suc, ◌+◌, ◌-◌, ◌*◌, ◌≤◌, ◌<◌, min}
use native.Mathlib.Decide.{ℕ_discrete, dec_lt}
use native.Mathlib.Numerals.{add-one}
use native.Mathlib.Omega.{arith}
use mathlib.Core.Path.{◌≡◌, refl, sym, ◌∙◌}
use mathlib.Core.Logic.{◌⊎◌, inl, inr, ⊎_elim}
use mathlib.Core.Bool.{Bool, true, false}
use mathlib.Core.List.{List}
use lib.ListN.{length}
use borrow.Author.Count.{below_more}
use Rattle.l1.specs.Syntax.{Expr}
use Rattle.l1.specs.Measures.{size, places}
use Rattle.l1.proofs.Clash.{clash}
use Rattle.stored.specs.Bytes.{byte, pair}
use Rattle.stored.specs.Layout.{arg, TreeAt}
use Rattle.stored.specs.Reader.{tree_at, StandBelow}
use Rattle.stored.specs.Refusals.{locations, count}
use Rattle.stored.specs.Headed.{Headed}
use Rattle.stored.specs.Answers.{Opened, Opening}
use Rattle.stored.proofs.Subtrees.{size_fits}
use Rattle.opener.specs.declared.Subtree.{Subtree}
use Rattle.opener.proofs.NodeTrees.{TellsOf, keeps_by, stands_keeps, keeps_stands}
use Rattle.opener.proofs.Order.{first_1, first_2, first_3, first_4, first_5_none, first_5_over, first_6, first_7, first_8, first_9, opens_whole}

-- a test, with what is answered on it first
on : {P X : Type 0} → Dec P → (P → X) → (¬ P → X) → X
on (yes p) f g = f p
on (no n) f g = g n

unless : {P X : Type 0} → Dec P → (¬ P → X) → (P → X) → X
unless d f g = on d g f

module _ (b : List ℕ) where
  -- what is told of the tree at node j
  abbrev told_of : ℕ → Subtree
  told_of j = record { low = j + 1 - size (tree_at b j); places = places (tree_at b j) }

  -- trees standing at the nodes before it, a tree stands at node i or none does
  module _ {i : ℕ} (below : StandBelow b i) where
    told : TellsOf b i told_of
    told j l = let h = size_fits b (below j l) in record { its_low = omega arith; its_places = refl }

    stands_or_not : TreeAt b i (tree_at b i) ⊎ ((e : Expr) → ¬ TreeAt b i e)
    stands_or_not = go (keeps_by b i told_of (min (arg b i) 255)) refl
      where
        go : (t : Bool) → keeps_by b i told_of (min (arg b i) 255) ≡ t → TreeAt b i (tree_at b i) ⊎ ((e : Expr) → ¬ TreeAt b i e)
        go true k = inl (keeps_stands b below told_of told (min (arg b i) 255) (omega arith) k)
        go false k = inr (λ e t. clash (sym k ∙ stands_keeps b told_of told t))

  -- the lowest node at which none stands, or a tree stands at each
  abbrev Told : ℕ → Type 0
  Told n = ((i : ℕ) × (i < n) × StandBelow b i × ((e : Expr) → ¬ TreeAt b i e)) ⊎ StandBelow b n

  lowest : (n : ℕ) → Told n
  lowest zero = inr (λ j l. absurd (omega arith))
  lowest (suc n) = ⊎_elim (λ (i, l, stand, none). inl (i, omega arith, stand, none)) one_more (lowest n)
    where
      one_more : StandBelow b n → Told (suc n)
      one_more below =
          ⊎_elim (λ t. inr (rw (← add-one n) (below_more _ n below t))) (λ none. inl (n, omega arith, below, none))
          (stands_or_not below)

  abbrev Answered : Type 0
  Answered = (a : Opened) × Opening b a

  nodes_answered : Headed b → Answered
  nodes_answered head = ⊎_elim (λ (i, l, stand, none). (_, first_7 b head l stand none)) root (lowest (count b))
    where
      root : StandBelow b (count b) → Answered
      root stand =
          let e = tree_at b (count b - 1) in
          let fits = size_fits b (stand (count b - 1) (omega arith)) in
          on (dec_lt (size e) (count b)) (λ less. (_, first_8 b head stand less)) (λ n₈.
          on (dec_lt 256 (places e)) (λ many. (_, first_9 b head stand (omega arith) many)) (λ n₉.
          (_, opens_whole b head stand (omega arith) (omega arith))))

  pub every_opening : Answered
  every_opening =
      on (dec_lt (length b) 6) (λ h. (_, first_1 b h)) (λ n₁. let p₁ : 6 ≤ length b = omega arith in
      unless (ℕ_discrete (pair b 0 + 2) (length b)) (λ h. (_, first_2 b p₁ h)) (λ p₂.
      unless (ℕ_discrete (byte b 2) 1) (λ h. (_, first_3 b p₁ p₂ h)) (λ p₃.
      on (dec_lt 64 (locations b)) (λ h. (_, first_4 b p₁ p₂ p₃ h)) (λ n₄. let p₄ : locations b ≤ 64 = omega arith in
      on (ℕ_discrete (count b) 0) (λ h. (_, first_5_none b p₁ p₂ p₃ p₄ h)) (λ p₅.
      on (dec_lt 4096 (count b)) (λ h. (_, first_5_over b p₁ p₂ p₃ p₄ h)) (λ n₅. let p₅' : count b ≤ 4096 = omega arith in
      unless (ℕ_discrete (pair b 0) (4 + 8 * count b)) (λ h. (_, first_6 b p₁ p₂ p₃ p₄ p₅ p₅' h)) (λ p₆.
      nodes_answered
      (record { all_bytes = omega arith; said_bytes = p₆; version = p₃; few_locations = p₄; some_nodes = omega arith; few_nodes = p₅' }))))))))
