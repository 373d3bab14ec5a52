-- A slice for `cap` nodes is enough for each tree within 01's limit whose text is t.
use Rattle.std.specs.Prelude.{ℕ, ◌≤◌, ◌≡◌, List}
use Rattle.l1.specs.Syntax.{Expr}
use Rattle.l1.specs.Measures.{size}
use Rattle.l1.specs.Text.{text}

pub record Enough (t : List ℕ) (cap : ℕ) : Type 0 where
  pub holds : (e : Expr) → t ≡ text e → size e ≤ 4096 → size e ≤ cap
