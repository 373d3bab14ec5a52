-- 02, request 1: "The writer takes any stored routine that passes 1 to 9, well typed or not." Its refusals, in their order, and what it answers.
use Rattle.std.specs.Prelude.{ℕ, ◌<◌, ◌≡◌, List, [], ◌∷◌, ◌++◌, length, drop}
use Rattle.l1.specs.Syntax.{Expr}
use Rattle.l1.specs.Text.{text}
use Rattle.stored.specs.Stages.{Refusal, Stage, ◌at◌, Passes, First}
use Rattle.stored.specs.Refusals.{Holds, RootHas, opening}

-- 1 to 9, and 32: the text is longer than the lent buffer, with the length needed
abbrev pub showing : List ℕ → ℕ → List Stage
showing b room = opening b ++ (32 at (λ n. RootHas b (λ e. n ≡ length (text e)) × (room < n))) ∷ []

-- a refusal, or the length of the text
pub data Shown : Type 0 where
  refuses : Refusal → Shown
  shown : ℕ → Shown

-- and the buffer after it: unchanged by a refusal, else the text of the routine's tree and behind it what was there
pub data Shows (b buffer : List ℕ) : Shown → List ℕ → Type 0 where
  show_refuses : {r : Refusal} → First (showing b (length buffer)) r → Shows b buffer (refuses r) buffer
  show_writes : {e : Expr} → Passes (showing b (length buffer)) → Holds b e
      → Shows b buffer (shown (length (text e))) (text e ++ drop (length (text e)) buffer)
