-- What is known of the bytes of a routine that was opened.
use Rattle.std.specs.Prelude.{ℕ, ◌-◌, ◌≡◌, ◌<◌, List}
use Rattle.l1.specs.Syntax.{Expr, Ty}
use Rattle.l1.specs.Typing.{◌⊢◌∶◌}
use Rattle.stored.specs.Bytes.{byte}
use Rattle.stored.specs.Reader.{tree_at}
use Rattle.stored.specs.Refusals.{locations, count, env, Holds}
use Rattle.stored.specs.Answers.{Opens}
use Rattle.routine.specs.declared.Sizes.{Sizes}

-- z holds n and m
abbrev pub SizesOf : List ℕ → Sizes → Type 0
SizesOf b z = (z.nodes ≡ count b) × (z.locations ≡ locations b)

-- the tree of the root, node n − 1
abbrev pub root_of : List ℕ → Expr
root_of b = tree_at b (count b - 1)

pub record IsOpen (b : List ℕ) (z : Sizes) : Type 0 where
  pub sizes : SizesOf b z
  pub opens : Opens b
  pub holds : Holds b (root_of b)

-- the same of what the program holds, where each number is a byte
pub record Held (b : List ℕ) (z : Sizes) : Type 0 where
  pub is_open : IsOpen b z
  pub small : (k : ℕ) → byte b k < 256

-- n and m of opened bytes
abbrev pub sizes_of : List ℕ → Sizes
sizes_of b = record { nodes = count b; locations = locations b }

-- the bytes were opened
abbrev pub Opened : List ℕ → Type 0
Opened b = IsOpen b (sizes_of b)

-- a routine that may be run: it was opened, and it has a type
pub record Runnable (b : List ℕ) : Type 0 where
  pub opens : Opens b
  pub holds : Holds b (root_of b)
  pub type : Ty
  pub typed : env b ⊢ root_of b ∶ type
