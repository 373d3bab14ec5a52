-- Where the parts of an input stand: the routine is its first bytes, and a byte after the routine is a byte of the input.
use Prim.Native.Nat.{ℕ, zero, suc, ◌+◌, ◌-◌, ◌<◌, min}
use native.Mathlib.Omega.{arith}
use mathlib.Core.Path.{◌≡◌, refl, ◌∙◌, ap}
use mathlib.Core.List.{List, [], ◌∷◌}
use lib.ListN.{length, take, length-take, length-drop}
use lib.Seq.{get_or-take, get_or-drop}
use Rattle.stored.specs.Bytes.{byte, pair}
use Rattle.stored.specs.Refusals.{looked_at, routine, after_routine}
use Rattle.stored.specs.Trace.{four}

take_cut : (m n : ℕ) (l : List ℕ) → take (length (take m (take n l))) l ≡ take m (take n l)
take_cut zero n l = refl
take_cut (suc m) zero l = refl
take_cut (suc m) (suc n) [] = refl
take_cut (suc m) (suc n) (x ∷ l) = ap (λ (r : List ℕ). x ∷ r) (take_cut m n l)

module _ (input : List ℕ) where
  pub routine_first : take (length (routine input)) input ≡ routine input
  routine_first = take_cut (2 + pair input 0) 33035 input

  pub routine_length : length (routine input) ≡ min (2 + pair input 0) (min 33035 (length input))
  routine_length = simp length-take

  pub rest_length : length (after_routine input) ≡ min 33035 (length input) - length (routine input)
  rest_length = length-drop (2 + pair input 0) (looked_at input) ∙ omega (arith, routine_length, length-take 33035 input)

  -- where something follows, the routine has all its 2 + L bytes
  byte_after : (k at : ℕ) → k < length (after_routine input) → at ≡ length (routine input) + k → byte (after_routine input) k ≡ byte input at
  byte_after k at h e =
      let whole : 2 + pair input 0 + k ≡ at = omega (arith, routine_length, rest_length) in
      get_or-drop (2 + pair input 0) (looked_at input) k 0
      ∙ get_or-take 33035 input (2 + pair input 0 + k) 0 (omega (arith, routine_length, rest_length))
      ∙ ap (byte input) whole

  pub four_after : (k at : ℕ) → k + 3 < length (after_routine input) → at ≡ length (routine input) + k → four (after_routine input) k ≡ four input at
  four_after k at h e =
      rw (
        byte_after k at (omega arith) (omega arith),
        byte_after (k + 1) (at + 1) (omega arith) (omega arith),
        byte_after (k + 2) (at + 2) (omega arith) (omega arith),
        byte_after (k + 2 + 1) (at + 2 + 1) (omega arith) (omega arith),
      )
