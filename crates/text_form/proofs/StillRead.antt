-- No text that was read before request 2 of 02 is refused now: 9 was given where the tree is more than 256 deep, and every tree is deeper than it
-- has places. The other stages are as before.
use Prim.Native.Nat.{ℕ, ◌<◌}
use native.Mathlib.Omega.{arith}
use mathlib.Core.List.{List, [], ◌∷◌, ◌++◌}
use Rattle.l1.specs.Measures.{places}
use Rattle.l1.proofs.Depth.{depth, places_below_depth}
use Rattle.stored.specs.Stages.{Stage, ◌when◌, Passes}
use Rattle.stored.proofs.Stages.{silent_when, when_silent}
use Rattle.text_form.specs.Reading.{TextHas, before_places, too_short, reading}

-- 01: "the root's depth is over 256"
abbrev pub of_text_by_depth : List ℕ → List Stage
of_text_by_depth t = before_places t ++ (9 when TextHas t (λ e. 256 < depth e)) ∷ []

abbrev pub reading_by_depth : ℕ → List ℕ → ℕ → List Stage
reading_by_depth m t room = (4 when 64 < m) ∷ (of_text_by_depth t ++ too_short t room)

deep_enough : {t : List ℕ} → TextHas t (λ e. 256 < places e) → TextHas t (λ e. 256 < depth e)
deep_enough (e, q, l) = (e, q, omega (arith, l, places_below_depth e))

pub still_read : (m : ℕ) (t : List ℕ) (room : ℕ) → Passes (reading_by_depth m t room) → Passes (reading m t room)
still_read m t room p =
    let (s4, (s50, (s51, (s52, (s5, (s9, s53)))))) = p.all_silent in
    record { all_silent = (s4, (s50, (s51, (s52, (s5, (when_silent (λ x. silent_when s9 (deep_enough x)), s53)))))) }
