-- What the table of the nodes passed has for each: the lowest node of its subtree, and the subtree's places.
use Rattle.std.specs.Prelude.{ℕ, ◌+◌, ◌≡◌, List, get_or}
use Rattle.l1.specs.Syntax.{Expr}
use Rattle.l1.specs.Measures.{size, places}
use Rattle.stored.specs.Layout.{TreeAt}
use Rattle.stored.specs.Reader.{tree_at}
use Rattle.opener.specs.declared.Subtree.{Subtree}

-- of the tree e at node j: with its nodes the lowest of them makes up those to j
pub record Tells (j : ℕ) (e : Expr) (t : Subtree) : Type 0 where
  pub its_low : t.low + size e ≡ j + 1
  pub its_places : t.places ≡ places e

-- as the table holds it before a node is passed
abbrev pub unset : Subtree
unset = record { low = 0; places = 0 }

-- a tree stands at node j, and the table tells of it
pub record Passed (b : List ℕ) (table : List Subtree) (j : ℕ) : Type 0 where
  pub stands : TreeAt b j (tree_at b j)
  pub held : Tells j (tree_at b j) (get_or table j unset)
