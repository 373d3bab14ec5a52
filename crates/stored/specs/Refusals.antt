-- 01, "Numbers of refusal, in the order of checking": the lists of stages from which number, "given when", "also returns" and order are read off.
use Rattle.std.specs.Prelude.{ℕ, ◌+◌, ◌*◌, ◌<◌, ◌≡◌, ◌⊎◌, List, [], ◌∷◌, ◌++◌, length, take, drop}
use Rattle.l1.specs.Syntax.{Expr}
use Rattle.l1.specs.Store.{Store}
use Rattle.l1.specs.Typing.{TypeEnv}
use Rattle.l1.specs.Run.{Outcome, answer, Yields}
use Rattle.l1.specs.Measures.{size, places}
use Rattle.l1.specs.Text.{text}
use Rattle.l1.specs.Refused.{Refused}
use Rattle.stored.specs.Bytes.{byte, pair}
use Rattle.stored.specs.Layout.{TreeAt}
use Rattle.stored.specs.Stages.{Stage, ◌when◌, ◌at◌, OneOf}

-- m and n
abbrev pub locations : List ℕ → ℕ
locations b = byte b 3

abbrev pub count : List ℕ → ℕ
count b = pair b 4

abbrev pub env : List ℕ → TypeEnv
env b = record { locations = locations b }

-- "The root is node n−1": the tree e stands there
pub record Holds (b : List ℕ) (e : Expr) : Type 0 where
  pub root : ℕ
  pub is_last : root + 1 ≡ count b
  pub tree : TreeAt b root e

-- "the root's subtree", "the root's count": P of the tree that stands there
abbrev pub RootHas : List ℕ → (Expr → Type 0) → Type 0
RootHas b P = (e : Expr) × Holds b e × P e

-- a node breaks the layout: i is the lowest at which no tree stands
pub record Breaks (b : List ℕ) (i : ℕ) : Type 0 where
  pub in_routine : i < count b
  pub lower_stand : (j : ℕ) → j < i → (e : Expr) × TreeAt b j e
  pub none_stands : (e : Expr) → ¬ TreeAt b i e

-- the routine itself, by its bytes: its layout, and then its places
abbrev pub layout : List ℕ → List Stage
layout b =
    (1 when length b < 6)
    ∷ (2 when ¬ (pair b 0 + 2 ≡ length b))
    ∷ (3 when ¬ (byte b 2 ≡ 1))
    ∷ (4 when 64 < locations b)
    ∷ (5 when ((count b ≡ 0) ⊎ (4096 < count b)))
    ∷ (6 when ¬ (pair b 0 ≡ 4 + 8 * count b))
    ∷ (7 at Breaks b)
    ∷ (8 when RootHas b (λ e. size e < count b))
    ∷ []

-- 9 as request 2 of 02 has it
abbrev pub opening : List ℕ → List Stage
opening b = layout b ++ (9 when RootHas b (λ e. 256 < places e)) ∷ []

-- and by its types: 20 to 23 are one stage, in which l1's `Refused` picks the node and the number
abbrev pub typing : List ℕ → List Stage
typing b = OneOf (λ c i. RootHas b (λ e. Refused (env b) e c i)) ∷ []

-- what is refused of every row, and then of what is lent with it
abbrev pub admission : List ℕ → List Stage → List Stage
admission b lent = opening b ++ typing b ++ lent

-- the check lends nothing
abbrev pub checking : List ℕ → List Stage
checking b = admission b []

-- the run: "the lent store has fewer than m entries"
abbrev pub lent_store : List ℕ → ℕ → List Stage
lent_store b entries = (30 when entries < locations b) ∷ []

abbrev pub running : List ℕ → Store → List Stage
running b s = admission b (lent_store b (length s))

-- the text after k steps has so many bytes
abbrev pub TextLength : List ℕ → Store → ℕ → ℕ → Type 0
TextLength b s k n =
    (e : Expr) × (e' : Expr) × (s' : Store) × (o : Outcome) × (T : ℕ) × (K : ℕ)
    × Holds b e × Yields k e s (answer o T K e' s') × (n ≡ length (text e'))

-- the text: "the text is longer than the lent buffer", with the length needed
abbrev pub lent_room : List ℕ → Store → ℕ → ℕ → List Stage
lent_room b s k room = (32 at (λ n. TextLength b s k n × (room < n))) ∷ []

abbrev pub texting : List ℕ → Store → ℕ → ℕ → List Stage
texting b s k room = admission b (lent_store b (length s) ++ lent_room b s k room)

-- `trace` "reads at most 33,035 bytes; what follows them is never looked at", and "the routine is the first 2 + L bytes, where L is in
-- bytes 0-1, at most 33,035 of them, or all the input if there are fewer"
abbrev pub looked_at : List ℕ → List ℕ
looked_at input = take 33035 input

abbrev pub routine : List ℕ → List ℕ
routine input = take (2 + pair input 0) (looked_at input)

abbrev pub after_routine : List ℕ → List ℕ
after_routine input = drop (2 + pair input 0) (looked_at input)

-- `trace`: "the program's input after the routine isn't 4 + 4m bytes"
abbrev pub lent_input : List ℕ → ℕ → List Stage
lent_input b after = (40 when ¬ (after ≡ 4 + 4 * locations b)) ∷ []

abbrev pub tracing : List ℕ → List Stage
tracing input = admission (routine input) (lent_input (routine input) (length (after_routine input)))
