-- Nothing that was accepted before request 2 of 02 is refused now: 9 was given where the root is more than 256 deep, and every tree is deeper than
-- it has places. The stages behind 9 are as before: none in opening, the types and what is lent in the check, the run, the text and `trace`, the
-- length of the text in writing.
use Prim.Native.Nat.{ℕ, ◌<◌}
use native.Mathlib.Omega.{arith}
use mathlib.Core.List.{List, [], ◌∷◌, ◌++◌}
use Rattle.l1.specs.Measures.{places}
use Rattle.l1.proofs.Depth.{depth, places_below_depth}
use Rattle.stored.specs.Stages.{Stage, ◌when◌, Passes}
use Rattle.stored.specs.Refusals.{RootHas, layout, typing, opening, admission}
use Rattle.stored.proofs.Stages.{silent_when, when_silent}

-- 01: "the root's depth is over 256"
abbrev pub opening_by_depth : List ℕ → List Stage
opening_by_depth b = layout b ++ (9 when RootHas b (λ e. 256 < depth e)) ∷ []

deep_enough : {b : List ℕ} → RootHas b (λ e. 256 < places e) → RootHas b (λ e. 256 < depth e)
deep_enough (e, h, l) = (e, h, omega (arith, l, places_below_depth e))

-- whatever stages stand behind
pub still_passes : (b : List ℕ) (behind : List Stage) → Passes (opening_by_depth b ++ behind) → Passes (opening b ++ behind)
still_passes b behind p =
    let (s1, (s2, (s3, (s4, (s5, (s6, (s7, (s8, (s9, more))))))))) = p.all_silent in
    record { all_silent = (s1, (s2, (s3, (s4, (s5, (s6, (s7, (s8, (when_silent (λ x. silent_when s9 (deep_enough x)), more))))))))) }

pub still_opens : (b : List ℕ) → Passes (opening_by_depth b) → Passes (opening b)
still_opens b = still_passes b []

pub still_accepted : (b : List ℕ) (lent : List Stage) → Passes (opening_by_depth b ++ typing b ++ lent) → Passes (admission b lent)
still_accepted b lent = still_passes b (typing b ++ lent)
