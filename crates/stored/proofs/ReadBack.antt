-- Reading the stored form of a tree gives the tree, and no refusal of 1 to 9.
use Prim.Native.Nat.{ℕ, ◌+◌, ◌-◌, ◌*◌, ◌≤◌}
use native.Mathlib.Omega.{arith}
use native.Mathlib.Nat.{div-add-mod'}
use mathlib.Core.Path.{◌≡◌, refl, sym, ◌∙◌, ap}
use mathlib.Core.Logic.{⊎_elim}
use mathlib.Core.List.{List, [], ◌∷◌, ◌++◌}
use lib.ListN.{length, length-append}
use lib.Seq.{take_all}
use Rattle.l1.specs.Syntax.{Expr, int, bool, ◌‹◌#◌›◌, if◌then'◌else◌, ◌:=◌, !◌, skip, ◌⨾◌, while◌do'◌done}
use Rattle.l1.specs.Measures.{size, places}
use Rattle.l1.specs.Refused.{nodes, nth_zero, Node}
use Rattle.l1.proofs.Nodes.{nth_right, nth_some, nodes_length, size_positive}
use Rattle.stored.specs.Bytes.{byte, pair, unsigned, signed}
use Rattle.stored.specs.Stored.{node_bytes, op_kind, root_from, bytes_from, stored, Storable}
use Rattle.stored.specs.Layout.{node_start, NodeIs, TreeAt, at_int, at_bool, at_op, at_if, at_assign, at_deref, at_skip, at_seq, at_while}
use Rattle.stored.specs.Refusals.{locations, count, Holds, Breaks}
use Rattle.stored.proofs.Fits.{Fits, storable_fits, fits_left, fits_first, fits_second, fits_rest}
use Rattle.stored.specs.Answers.{Opens}
use Rattle.stored.proofs.Parts.{part, part_split, part_node}
use Rattle.stored.proofs.Signed.{signed_unsigned}
use Rattle.stored.proofs.Subtrees.{subtrees}
use Rattle.stored.proofs.Reader.{holds_unique}
use Rattle.stored.proofs.Stages.{when_silent, at_silent, passes_nothing, passes_more}

pub nodes_bytes : (e : Expr) (f : ℕ) → length (bytes_from f e) ≡ 8 * size e
unfolding bytes_from
nodes_bytes (int n) f = refl
nodes_bytes (bool b) f = refl
nodes_bytes (e₁ ‹ o # i › e₂) f = simp (length-append, nodes_bytes e₁, nodes_bytes e₂) (omega arith)
nodes_bytes (if e₁ then' e₂ else e₃) f = simp (length-append, nodes_bytes e₁, nodes_bytes e₂, nodes_bytes e₃) (omega arith)
nodes_bytes (l := e) f = simp (length-append, nodes_bytes e) (omega arith)
nodes_bytes (! l) f = refl
nodes_bytes skip f = refl
nodes_bytes (e₁ ⨾ e₂) f = simp (length-append, nodes_bytes e₁, nodes_bytes e₂) (omega arith)
nodes_bytes (while e₁ do' e₂ done) f = simp (length-append, nodes_bytes e₁, nodes_bytes e₂) (omega arith)

-- two trees stand before node i, which has them for children
record TwoBefore (b : List ℕ) (i k x y : ℕ) (e₁ e₂ : Expr) : Type 0 where
  own : NodeIs b i k 0 x y 0
  last : y + 1 ≡ i
  before : x + size e₂ ≡ y
  first_tree : TreeAt b x e₁
  second_tree : TreeAt b y e₂

-- the number of the root, of a node without children and of one with two
leaf_root : (f : ℕ) → f + 1 - 1 ≡ f
leaf_root f = omega arith

two_root : (f n m : ℕ) → f + (1 + n + m) - 1 ≡ f + (n + m)
two_root f n m = omega arith

module _ (b : List ℕ) where
  abbrev Reads : Expr → Type 0
  Reads e = (f : ℕ) → Fits f (nodes e) → node_start (f + size e) ≤ length b → part b f (size e) ≡ bytes_from f e → TreeAt b (root_from f e) e

  two_read : (k : ℕ) (e₁ e₂ e : Expr) → Reads e₁ → Reads e₂ → (f : ℕ) → Fits f (nodes e₁ ++ nodes e₂ ++ e ∷ [])
      → node_start (f + (1 + size e₁ + size e₂)) ≤ length b
      → part b f (1 + size e₁ + size e₂) ≡ bytes_from f e₁ ++ bytes_from (f + size e₁) e₂ ++ node_bytes k 0 (root_from f e₁) (root_from (f + size e₁) e₂) 0
      → TwoBefore b (f + (size e₁ + size e₂)) k (root_from f e₁) (root_from (f + size e₁) e₂) e₁ e₂
  two_read k e₁ e₂ e r₁ r₂ f fits inside h =
      let l₁ = nodes_bytes e₁ f in let l₂ = nodes_bytes e₂ (f + size e₁) in
      let p₁ = size_positive e₁ in let p₂ = size_positive e₂ in
      let q : 1 + size e₁ + size e₂ ≡ size e₁ + size e₂ + 1 = omega arith in
      let bytes = bytes_from f e₁ ++ bytes_from (f + size e₁) e₂ in
      let s = part_split b bytes _ f (size e₁ + size e₂) 1 (omega arith) (simp length-append (omega arith)) (rw q at h) in
      let t = part_split b (bytes_from f e₁) (bytes_from (f + size e₁) e₂) f (size e₁) (size e₂) (omega arith) l₁ s.0 in
      record {
        own = part_node b (f + (size e₁ + size e₂)) (omega arith) s.1;
        last = omega arith;
        before = omega arith;
        first_tree = r₁ f (fits_first e₁ e₂ (e ∷ []) fits) (omega arith) t.0;
        second_tree = r₂ (f + size e₁) (fits_second e₁ e₂ (e ∷ []) fits) (omega arith) t.1;
      }

  -- where the bytes from node f on are the nodes of e, e stands there
  reads : (e : Expr) → Reads e
  unfolding bytes_from
  reads (int n) f fits inside h =
      rw leaf_root (at_int (part_node b f inside h) (sym (ap signed (div-add-mod' (unsigned n) 65536) ∙ signed_unsigned n (fits.integers 0 n nth_zero))))
  reads (bool t) f fits inside h = rw leaf_root (at_bool (part_node b f inside h))
  reads (e₁ ‹ o # j › e₂) f fits inside h =
      let t = two_read (op_kind o) e₁ e₂ _ (reads e₁) (reads e₂) f fits inside h in
      let k = fits.numbered (length (nodes e₁ ++ nodes e₂) + 0) j o e₁ e₂ (nth_right (nodes e₁ ++ nodes e₂) nth_zero) in
      let l : length (nodes e₁ ++ nodes e₂) ≡ size e₁ + size e₂ = simp (length-append, nodes_length) in
      let q : j ≡ f + (size e₁ + size e₂) = omega arith in
      rw (two_root, q) (at_op t.own t.last t.before t.first_tree t.second_tree)
  reads (if e₁ then' e₂ else e₃) f fits inside h =
      let l₁ = nodes_bytes e₁ f in let l₂ = nodes_bytes e₂ (f + size e₁) in let l₃ = nodes_bytes e₃ (f + size e₁ + size e₂) in
      let p₁ = size_positive e₁ in let p₂ = size_positive e₂ in let p₃ = size_positive e₃ in
      let q : 1 + size e₁ + size e₂ + size e₃ ≡ size e₁ + size e₂ + size e₃ + 1 = omega arith in
      let a : f + (size e₁ + size e₂) ≡ f + size e₁ + size e₂ = omega arith in
      let i : f + (1 + size e₁ + size e₂ + size e₃) - 1 ≡ f + (size e₁ + size e₂ + size e₃) = omega arith in
      let children = fits_left (nodes e₁ ++ nodes e₂ ++ nodes e₃) _ fits in
      let bytes₂ = bytes_from f e₁ ++ bytes_from (f + size e₁) e₂ in
      let bytes₃ = bytes₂ ++ bytes_from (f + size e₁ + size e₂) e₃ in
      let s = part_split b bytes₃ _ f (size e₁ + size e₂ + size e₃) 1 (omega arith) (simp length-append (omega arith)) (rw q at h) in
      let t = part_split b bytes₂ _ f (size e₁ + size e₂) (size e₃) (omega arith) (simp length-append (omega arith)) s.0 in
      let u = part_split b (bytes_from f e₁) _ f (size e₁) (size e₂) (omega arith) l₁ t.0 in
      let r₁ = reads e₁ f (fits_first e₁ e₂ (nodes e₃) children) (omega arith) u.0 in
      let r₂ = reads e₂ (f + size e₁) (fits_second e₁ e₂ (nodes e₃) children) (omega arith) u.1 in
      let r₃ = reads e₃ (f + size e₁ + size e₂) (fits_rest e₁ e₂ (nodes e₃) children) (omega arith) (rw a at t.1) in
      let own = part_node b (f + (size e₁ + size e₂ + size e₃)) (omega arith) s.1 in
      let before₃ : root_from (f + size e₁) e₂ + size e₃ ≡ root_from (f + size e₁ + size e₂) e₃ = omega arith in
      let before₂ : root_from f e₁ + size e₂ ≡ root_from (f + size e₁) e₂ = omega arith in
      rw i (at_if own (omega arith) before₃ before₂ r₁ r₂ r₃)
  reads (l := e) f fits inside h =
      let p = size_positive e in
      let q : 1 + size e ≡ size e + 1 = omega arith in
      let i : f + (1 + size e) - 1 ≡ f + size e = omega arith in
      let s = part_split b (bytes_from f e) _ f (size e) 1 (omega arith) (nodes_bytes e f) (rw q at h) in
      rw i (at_assign (part_node b (f + size e) (omega arith) s.1) (omega arith) (reads e f (fits_left (nodes e) _ fits) (omega arith) s.0))
  reads (! l) f fits inside h = rw leaf_root (at_deref (part_node b f inside h))
  reads skip f fits inside h = rw leaf_root (at_skip (part_node b f inside h))
  reads (e₁ ⨾ e₂) f fits inside h =
      let t = two_read 8 e₁ e₂ _ (reads e₁) (reads e₂) f fits inside h in
      rw two_root (at_seq t.own t.last t.before t.first_tree t.second_tree)
  reads (while e₁ do' e₂ done) f fits inside h =
      let t = two_read 9 e₁ e₂ _ (reads e₁) (reads e₂) f fits inside h in
      rw two_root (at_while t.own t.last t.before t.first_tree t.second_tree)

module _ (m : ℕ) (e : Expr) where
  pub stored_locations : locations (stored m e) ≡ m
  unfolding stored
  stored_locations = refl

  pub stored_count : count (stored m e) ≡ size e
  unfolding stored
  stored_count = omega arith

  pub stored_length : length (stored m e) ≡ 6 + 8 * size e
  unfolding stored
  stored_length = rw (nodes_bytes e 0) (omega arith)

  stored_part : part (stored m e) 0 (size e) ≡ bytes_from 0 e
  unfolding stored part
  stored_part = take_all (8 * size e) (bytes_from 0 e) (omega (arith, nodes_bytes e 0))

  stored_pair : pair (stored m e) 0 ≡ 4 + 8 * size e
  unfolding stored
  stored_pair = omega arith

  stored_version : byte (stored m e) 2 ≡ 1
  unfolding stored
  stored_version = refl

  module _ (s : Storable m e) where
    pub tree_reads : Holds (stored m e) e
    tree_reads =
        let p = size_positive e in let l = stored_length in let n = stored_count in
        record { root = root_from 0 e; is_last = omega arith; tree = reads (stored m e) e 0 (storable_fits s) (omega arith) stored_part }

    pub node_reads : {i : ℕ} {d : Expr} → Node e i d → TreeAt (stored m e) i d
    node_reads {i} {d} h =
        let n = stored_count in let l = tree_reads.is_last in
        let z : 0 + i ≡ i = omega arith in
        rw z at ((subtrees (stored m e) tree_reads.tree 0 (omega arith)).stands i d h)

    -- no node breaks the layout: at each of them a tree stands
    none_breaks : (i : ℕ) → ¬ Breaks (stored m e) i
    none_breaks i x =
        let d = nth_some (nodes e) i (omega (arith, nodes_length e, stored_count, x.in_routine)) in x.none_stands d.0 (node_reads d.1)

    pub stored_opens : Opens (stored m e)
    stored_opens =
        let same : (d : Expr) → Holds (stored m e) d → e ≡ d = λ d h. holds_unique (stored m e) tree_reads h in
        let p = size_positive e in
        record {
          passes =
              passes_more (when_silent (λ h. omega (arith, stored_length)))
              (passes_more (when_silent (λ h. h (omega (arith, stored_length, stored_pair))))
              (passes_more (when_silent (λ h. h stored_version))
              (passes_more (when_silent (λ h. omega (arith, stored_locations, s.few_locations)))
              (passes_more (when_silent (⊎_elim (λ h. omega (arith, stored_count)) (λ h. omega (arith, stored_count, s.few_nodes))))
              (passes_more (when_silent (λ h. h (omega (arith, stored_count, stored_pair))))
              (passes_more (at_silent none_breaks)
              (passes_more (when_silent (λ (d, h, l). omega (arith, stored_count, ap size (same d h))))
              (passes_more (when_silent (λ (d, h, l). omega (arith, s.few_places, ap places (same d h))))
              passes_nothing))))))));
        }
