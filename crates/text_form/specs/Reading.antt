-- 02, request 1: reading. The refusals of reading the text t with m given into `room` lent bytes, in their order, and what reading answers.
use Rattle.std.specs.Prelude.{ℕ, ◌+◌, ◌*◌, ◌≤◌, ◌<◌, ◌≡◌, List, [], ◌∷◌, ◌++◌, length, drop}
use Rattle.l1.specs.Syntax.{Expr}
use Rattle.l1.specs.Measures.{size, places}
use Rattle.l1.specs.Text.{text}
use Rattle.stored.specs.Stages.{Refusal, Stage, ◌when◌, ◌at◌, First}
use Rattle.stored.specs.Stored.{stored, Storable}
use Rattle.text_form.specs.Form.{Leaves}
use Rattle.text_form.specs.Numbers.{LargeInteger, LargeLocation, Foremost}

-- P of the tree whose text t is
abbrev pub TextHas : List ℕ → (Expr → Type 0) → Type 0
TextHas t P = (e : Expr) × (t ≡ text e) × P e

-- what is refused of the text before its places are counted: "50 .. 51 .. 52 .. 5 .. on what was read"
abbrev pub before_places : List ℕ → List Stage
before_places t =
    (50 at Leaves t)
    ∷ (51 at (λ i. TextHas t (λ e. Foremost (LargeInteger e) i)))
    ∷ (52 at (λ i. TextHas t (λ e. Foremost (LargeLocation e) i)))
    ∷ (5 when TextHas t (λ e. 4096 < size e))
    ∷ []

-- what is refused of the text itself; 9 as request 2 of 02 has it
abbrev pub of_text : List ℕ → List Stage
of_text t = before_places t ++ (9 when TextHas t (λ e. 256 < places e)) ∷ []

-- "53 lent room too short, with the bytes needed"
abbrev pub too_short : List ℕ → ℕ → List Stage
too_short t room = (53 at (λ k. TextHas t (λ e. (k ≡ 6 + 8 * size e) × (room < k)))) ∷ []

-- "Refusals, in this order and not by number: 4; 50 ..; 51 .. and 52 ..; 5 and 9 ..; 53 .."
abbrev pub reading : ℕ → List ℕ → ℕ → List Stage
reading m t room = (4 when 64 < m) ∷ (of_text t ++ too_short t room)

-- a refusal, or the length of the routine that is read
pub data Taken : Type 0 where
  refuses : Refusal → Taken
  taken : ℕ → Taken

-- and the lent bytes after it: "a refusal writes nothing"; else the routine with m locations of a tree that a routine can hold and whose text is t,
-- and behind it what was there
pub data Reads (m : ℕ) (t room : List ℕ) : Taken → List ℕ → Type 0 where
  read_refuses : {r : Refusal} → First (reading m t (length room)) r → Reads m t room (refuses r) room
  read_takes : {e : Expr} → Storable m e → t ≡ text e → length (stored m e) ≤ length room
      → Reads m t room (taken (length (stored m e))) (stored m e ++ drop (length (stored m e)) room)
