-- The tree of Layout.antt, computed: `read_tree`. It answers for every list of bytes; where a tree stands at the node it is that tree
-- (proofs/Reader.antt), so that no two trees stand at one node.
use Rattle.std.specs.Prelude.{ℕ, zero, suc, ◌+◌, ◌*◌, ◌<◌, List, [], ◌∷◌, eqb, get_or}
use Rattle.l1.specs.Syntax.{plus, geq, Expr, int, bool, ◌‹◌#◌›◌, if◌then'◌else◌, ◌:=◌, !◌, skip, ◌⨾◌, while◌do'◌done}
use Rattle.stored.specs.Bytes.{signed}
use Rattle.stored.specs.Layout.{kind, arg, child1, child2, child3, TreeAt}

-- the forms by their kinds, from 0: the tree of node i from the trees of the other nodes
abbrev pub forms : List ℕ → ℕ → List ((ℕ → Expr) → Expr)
forms b i =
    (λ t. int (signed (child2 b i * 65536 + child3 b i)))
    ∷ (λ t. bool (eqb (arg b i) 1))
    ∷ (λ t. t (child1 b i) ‹ plus # i › t (child2 b i))
    ∷ (λ t. t (child1 b i) ‹ geq # i › t (child2 b i))
    ∷ (λ t. if t (child1 b i) then' t (child2 b i) else t (child3 b i))
    ∷ (λ t. arg b i := t (child1 b i))
    ∷ (λ t. ! arg b i)
    ∷ (λ t. skip)
    ∷ (λ t. t (child1 b i) ⨾ t (child2 b i))
    ∷ (λ t. while t (child1 b i) do' t (child2 b i) done)
    ∷ []

-- the tree of node i, to a depth of d
unfoldable pub read_tree : ℕ → List ℕ → ℕ → Expr
read_tree zero b i = skip
read_tree (suc d) b i = get_or (forms b i) (kind b i) (λ t. skip) (read_tree d b)

-- the tree at node i, which is no deeper than the nodes up to it
abbrev pub tree_at : List ℕ → ℕ → Expr
tree_at b i = read_tree (i + 1) b i

-- a tree stands at each node below n
abbrev pub StandBelow : List ℕ → ℕ → Type 0
StandBelow b n = (j : ℕ) → j < n → TreeAt b j (tree_at b j)
