-- A table that holds the length of the text of every node below n. No node's own pieces have more than 40 bytes, and no routine more than 4,096 nodes.
use Rattle.std.specs.Prelude.{ℕ, ◌≤◌, ◌<◌, ◌≡◌, List, length, get_or}
use Rattle.node_text.specs.Texts.{text_at}

abbrev pub LengthsOf : List ℕ → ℕ → List ℕ → Type 0
LengthsOf b n table = (j : ℕ) → j < n → (get_or table j 0 ≡ length (text_at b j)) × (length (text_at b j) ≤ 163840)

-- the table after it was filled: the lengths below n, and what stood there from n on
pub record Filled (b : List ℕ) (n : ℕ) (before after : List ℕ) : Type 0 where
  pub lengths : LengthsOf b n after
  pub rest : (j : ℕ) → n ≤ j → get_or after j 0 ≡ get_or before j 0
  pub same_length : length after ≡ length before
