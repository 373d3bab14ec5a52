-- 02, request 1: which texts are of the form of 01, and the place where a text leaves it.
use Rattle.std.specs.Prelude.{ℕ, suc, ◌<◌, ◌≡◌, List, ◌++◌, length, take}
use Rattle.l1.specs.Syntax.{Expr}
use Rattle.l1.specs.Text.{text}

-- t is a text of the form: the text of some tree. "Numbers of any size count as the form": `Expr` has all integers and all locations.
pub record OfForm (t : List ℕ) : Type 0 where
  pub expr : Expr
  pub shown : t ≡ text expr

-- some text of the form begins with the bytes p
pub record Begins (p : List ℕ) : Type 0 where
  pub rest : List ℕ
  pub whole : OfForm (p ++ rest)

-- "text not of the form, with the offset of the first byte that no text of the form can have after the bytes before it, or the text's length if
-- it only stops too soon"
pub data Leaves (t : List ℕ) : ℕ → Type 0 where
  wrong_byte : {i : ℕ} → i < length t → Begins (take i t) → ¬ Begins (take (suc i) t) → Leaves t i
  too_soon : Begins t → ¬ OfForm t → Leaves t (length t)
