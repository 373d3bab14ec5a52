-- The stages of opening, one after the other: each refusal is the first, from the tests before it and its own; and what opens when all pass.
use Prim.Native.Nat.{ℕ, ◌+◌, ◌-◌, ◌*◌, ◌≤◌, ◌<◌}
use native.Mathlib.Omega.{arith}
use mathlib.Core.Path.{◌≡◌, ap}
use mathlib.Core.Logic.{inl, inr, ⊎_elim}
use mathlib.Core.List.{List}
use lib.ListN.{length, drop}
use Rattle.l1.specs.Syntax.{Expr}
use Rattle.l1.specs.Measures.{size, places}
use Rattle.stored.specs.Bytes.{byte, pair}
use Rattle.stored.specs.Layout.{TreeAt}
use Rattle.stored.specs.Reader.{tree_at, StandBelow}
use Rattle.stored.specs.Stages.{no, no_with, given, given_at}
use Rattle.stored.specs.Refusals.{locations, count, Holds, opening}
use Rattle.stored.specs.Headed.{Headed}
use Rattle.stored.specs.Answers.{refuses, opens, Opening, open_refuses, open_opens}
use Rattle.stored.proofs.Reader.{holds_unique}
use Rattle.stored.proofs.Stages.{when_silent, at_silent, passes_nothing, Past, past_none, past_more, first_now}

-- the first k stages are silent
abbrev Silent-to : List ℕ → ℕ → Type 0
Silent-to b k = Past (opening b) (drop k (opening b))

module _ (b : List ℕ) where
  pub first_1 : length b < 6 → Opening b (refuses (no 1))
  first_1 h = open_refuses (first_now past_none (given h))

  module _ (p₁ : 6 ≤ length b) where
    past_1 : Silent-to b 1
    past_1 = past_more past_none (when_silent (λ h. omega arith))

    pub first_2 : ¬ (pair b 0 + 2 ≡ length b) → Opening b (refuses (no 2))
    first_2 h = open_refuses (first_now past_1 (given h))

    module _ (p₂ : pair b 0 + 2 ≡ length b) where
      past_2 : Silent-to b 2
      past_2 = past_more past_1 (when_silent (λ h. h p₂))

      pub first_3 : ¬ (byte b 2 ≡ 1) → Opening b (refuses (no 3))
      first_3 h = open_refuses (first_now past_2 (given h))

      module _ (p₃ : byte b 2 ≡ 1) where
        past_3 : Silent-to b 3
        past_3 = past_more past_2 (when_silent (λ h. h p₃))

        pub first_4 : 64 < locations b → Opening b (refuses (no 4))
        first_4 h = open_refuses (first_now past_3 (given h))

        module _ (p₄ : locations b ≤ 64) where
          past_4 : Silent-to b 4
          past_4 = past_more past_3 (when_silent (λ h. omega arith))

          pub first_5_none : count b ≡ 0 → Opening b (refuses (no 5))
          first_5_none h = open_refuses (first_now past_4 (given (inl h)))

          pub first_5_over : 4096 < count b → Opening b (refuses (no 5))
          first_5_over h = open_refuses (first_now past_4 (given (inr h)))

          module _ (p₅ : ¬ (count b ≡ 0)) (p₅' : count b ≤ 4096) where
            past_5 : Silent-to b 5
            past_5 = past_more past_4 (when_silent (⊎_elim p₅ (λ h. omega arith)))

            pub first_6 : ¬ (pair b 0 ≡ 4 + 8 * count b) → Opening b (refuses (no 6))
            first_6 h = open_refuses (first_now past_5 (given h))

            past_6 : pair b 0 ≡ 4 + 8 * count b → Silent-to b 6
            past_6 p₆ = past_more past_5 (when_silent (λ h. h p₆))

  module _ (head : Headed b) where
    past_head : Silent-to b 6
    past_head =
        past_6 (omega arith) (omega arith) head.version head.few_locations (omega arith) head.few_nodes head.said_bytes

    pub first_7 : {i : ℕ} → i < count b → StandBelow b i → ((e : Expr) → ¬ TreeAt b i e) → Opening b (refuses (no_with 7 i))
    first_7 l stand none =
        open_refuses (first_now past_head (given_at (record { in_routine = l; lower_stand = λ j h. (tree_at b j, stand j h); none_stands = none })))

    module _ (stand : StandBelow b (count b)) where
      past_7 : Silent-to b 7
      past_7 = past_more past_head (at_silent (λ i x. x.none_stands (tree_at b i) (stand i x.in_routine)))

      holds_root : Holds b (tree_at b (count b - 1))
      holds_root = record { root = count b - 1; is_last = omega arith; tree = stand (count b - 1) (omega arith) }

      pub first_8 : size (tree_at b (count b - 1)) < count b → Opening b (refuses (no 8))
      first_8 less = open_refuses (first_now past_7 (given (_, holds_root, less)))

      module _ (whole : size (tree_at b (count b - 1)) ≡ count b) where
        past_8 : Silent-to b 8
        past_8 = past_more past_7 (when_silent (λ (e, h, l). omega (arith, ap size (holds_unique b h holds_root))))

        past_9 : places (tree_at b (count b - 1)) ≤ 256 → Silent-to b 9
        past_9 p₉ = past_more past_8 (when_silent (λ (e, h, l). omega (arith, ap places (holds_unique b h holds_root))))

        pub first_9 : 256 < places (tree_at b (count b - 1)) → Opening b (refuses (no 9))
        first_9 many = open_refuses (first_now past_8 (given (_, holds_root, many)))

        pub opens_whole : places (tree_at b (count b - 1)) ≤ 256 → Opening b (opens (locations b) (count b))
        opens_whole low = open_opens (record { passes = (past_9 low).passes passes_nothing }) holds_root
