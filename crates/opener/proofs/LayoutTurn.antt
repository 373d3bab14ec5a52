-- A turn of the layout's loop: what is told of the next node, by what the table tells of the nodes passed; and what the table tells at the end.
use Prim.Native.Nat.{ℕ, ◌+◌, ◌-◌, ◌≤◌, ◌<◌, min}
use native.Mathlib.Omega.{arith}
use mathlib.Core.Path.{◌≡◌, sym, ◌∙◌}
use mathlib.Core.Bool.{true, false}
use mathlib.Core.List.{List}
use lib.ListN.{length, get_or, set}
use lib.Seq.{get_or-set_same, get_or-set_other}
use borrow.Author.Count.{below_more}
use Rattle.l1.specs.Syntax.{Expr}
use Rattle.l1.proofs.Clash.{clash}
use Rattle.l1.proofs.Places.{places_below_size}
use Rattle.stored.specs.Layout.{arg, TreeAt}
use Rattle.stored.specs.Reader.{tree_at, StandBelow}
use Rattle.stored.specs.Refusals.{locations, count}
use Rattle.stored.specs.Stages.{no}
use Rattle.stored.specs.Headed.{Headed}
use Rattle.stored.specs.Answers.{refuses, opens, Opening}
use Rattle.routine.specs.Forms.{node_of}
use Rattle.routine.specs.declared.Node.{Node}
use Rattle.opener.specs.Shapes.{keeps_node, places_by}
use Rattle.opener.specs.Subtrees.{Tells, unset, Passed}
use Rattle.opener.specs.Tables.{Covers, under}
use Rattle.opener.specs.declared.Subtree.{Subtree}
use Rattle.opener.proofs.NodeTrees.{TellsOf, low_by, told_by, stands_keeps, keeps_stands}
use Rattle.opener.proofs.Order.{first_8, first_9, opens_whole}

module _ {b : List ℕ} {table : List Subtree} {i : ℕ}
    (past : (j : ℕ) → j < i → Passed b table j) (low : Covers (length table) i) (small : arg b i < 256)
    {d : Node} {p q r : Subtree} (its : d ≡ node_of b i)
    (first : (none : Subtree) → p ≡ under none table d.first)
    (second : (none : Subtree) → q ≡ under none table d.second)
    (third : (none : Subtree) → r ≡ under none table d.third) where
  tells : TellsOf b i (under unset table)
  tells j l = rw (low j l) (past j l).held

  pub breaks : keeps_node d i q.low r.low ≡ false → (e : Expr) → ¬ TreeAt b i e
  breaks h e t =
      let a : min (arg b i) 255 ≡ arg b i = omega arith in
      clash (sym (rw (second unset, third unset, its) at h) ∙ rw a at (stands_keeps b (under unset table) tells t))

  module _ (h : keeps_node d i q.low r.low ≡ true) where
    stands : TreeAt b i (tree_at b i)
    stands = keeps_stands b (λ j l. (past j l).stands) (under unset table) tells (arg b i) (omega arith) (rw (second unset, third unset, its) at h)

    told : Tells i (tree_at b i) (record { low = low_by d.form i p.low; places = places_by d.form p.places q.places r.places })
    told =
        let t = told_by b (under unset table) tells stands in
        rw (first unset, second unset, third unset, its) (record { its_low = t.0; its_places = t.1 })

    pub few_places : places_by d.form p.places q.places r.places ≤ i
    few_places = omega (arith, told.its_low, told.its_places, places_below_size (tree_at b i))

    -- the table with the node's own entry tells of it too
    pub passes : (t : Subtree) → t.low ≡ low_by d.form i p.low → t.places ≡ places_by d.form p.places q.places r.places → i < length table
        → (j : ℕ) → j < i + 1 → Passed b (set table i t) j
    passes t l n room =
        below_more _ _
        (λ j m. record { stands = (past j m).stands; held = rw (get_or-set_other table i j t unset (omega arith)) (past j m).held })
        (record {
          stands = stands;
          held = rw (get_or-set_same table i t unset room) (record { its_low = rw l told.its_low; its_places = rw n told.its_places });
        })

-- all nodes are passed: what the root's entry tells
module _ {b : List ℕ} {n i : ℕ} (head : Headed b) (all : n ≡ count b) (past_all : n ≤ i) (table : List Subtree)
    (past : (j : ℕ) → j < i → Passed b table j) where
  abbrev root : Subtree
  root = get_or table (n - 1) unset

  stand : StandBelow b (count b)
  stand j l = (past j (omega arith)).stands

  its_root : Tells (count b - 1) (tree_at b (count b - 1)) root
  its_root = rw all (past (count b - 1) (omega (arith, head.some_nodes))).held

  pub parted : ¬ (root.low ≡ 0) → Opening b (refuses (no 8))
  parted l = first_8 b head stand (omega (arith, its_root.its_low))

  pub crowded : root.low ≡ 0 → 256 < root.places → Opening b (refuses (no 9))
  crowded l p = first_9 b head stand (omega (arith, its_root.its_low, head.some_nodes)) (omega (arith, its_root.its_places))

  pub whole : root.low ≡ 0 → root.places ≤ 256 → Opening b (opens (locations b) (count b))
  whole l p = opens_whole b head stand (omega (arith, its_root.its_low, head.some_nodes)) (omega (arith, its_root.its_places))
