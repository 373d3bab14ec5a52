-- Of a routine that was opened every node stands in the bytes, and these are the nodes of the tree at the root.
use Prim.Native.Nat.{ℕ, ◌+◌, ◌≤◌, ◌<◌}
use native.Mathlib.Nat.{zero-add}
use native.Mathlib.Omega.{arith}
use mathlib.Core.Path.{◌≡◌}
use mathlib.Core.List.{List}
use lib.ListN.{length}
use Rattle.l1.specs.Measures.{size, places}
use Rattle.l1.specs.Refused.{nodes, Node}
use Rattle.l1.proofs.Nodes.{nth_some, nodes_length}
use Rattle.stored.specs.Layout.{node_start, TreeAt}
use Rattle.stored.specs.Reader.{tree_at, StandBelow}
use Rattle.stored.specs.Refusals.{count, Holds}
use Rattle.stored.specs.Answers.{Opens}
use Rattle.stored.specs.Headed.{Headed}
use Rattle.stored.proofs.Opens.{headed, all_nodes, few_places}
use Rattle.stored.proofs.Subtrees.{subtrees}
use Rattle.stored.proofs.Reader.{read_tree_lem}
use Rattle.routine.specs.declared.Sizes.{Sizes}
use Rattle.routine.specs.Open.{root_of, SizesOf, IsOpen, Runnable}

module _ {b : List ℕ} (o : Opens b) (h : Holds b (root_of b)) where
  -- the sizes are within the limits: `Headed` has them
  pub is_headed : Headed b
  is_headed = headed b o

  pub root_size : size (root_of b) ≡ count b
  root_size = all_nodes o h

  pub root_places : places (root_of b) ≤ 256
  root_places = few_places o h

  -- a tree of the root's nodes stands at node i, and is what `tree_at` reads there
  both : (i : ℕ) → i < count b → TreeAt b i (tree_at b i) × Node (root_of b) i (tree_at b i)
  both i l =
      let r = root_size in
      let (d, n) = nth_some (nodes (root_of b)) i (rw nodes_length (omega arith)) in
      let t : TreeAt b i d = rw zero-add at ((subtrees b h.tree 0 (omega (arith, h.is_last))).stands i d n) in
      let q : tree_at b i ≡ d = read_tree_lem b (i + 1) t (omega arith) in
      rw q (t, n)

  pub nodes_stand : StandBelow b (count b)
  nodes_stand i l = (both i l).0

  pub root_nodes : (i : ℕ) → i < count b → Node (root_of b) i (tree_at b i)
  root_nodes i l = (both i l).1

-- the eight bytes of a node are there
pub node_bytes_lem : {b : List ℕ} {z : Sizes} {i : ℕ} → IsOpen b z → i < z.nodes → node_start (i + 1) ≤ length b
node_bytes_lem o h = omega (arith, o.sizes.0, (is_headed o.opens o.holds).all_bytes)

pub is_open : {b : List ℕ} {z : Sizes} → Runnable b → SizesOf b z → IsOpen b z
is_open ok sizes = record { sizes = sizes; opens = ok.opens; holds = ok.holds }

-- what the reading of node i asks, of a routine that may be run
pub may_read : {b : List ℕ} {z : Sizes} {i : ℕ} → Runnable b → SizesOf b z → i < count b → IsOpen b z × (i < z.nodes)
may_read ok sizes h = (is_open ok sizes, omega (arith, sizes.0))
