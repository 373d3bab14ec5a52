-- Bytes that no refusal of 1 to 9 is given to are the stored form of their tree, and it is a tree that a routine can hold.
use Prim.Native.Nat.{ℕ, ◌+◌, ◌*◌, ◌/◌, ◌%◌, ◌≤◌, ◌<◌}
use native.Mathlib.Omega.{arith}
use mathlib.Core.Path.{◌≡◌, refl, sym, ◌∙◌, ap, ap₂}
use mathlib.Core.List.{List, ◌++◌}
use lib.IntN.{ℤ}
use lib.ListN.{length, drop, take-append-drop, length-drop}
use lib.Seq.{take_all}
use Rattle.l1.specs.Syntax.{Op, Loc, Expr, int, ◌‹◌#◌›◌, ◌:=◌, !◌}
use Rattle.l1.specs.Range.{InRange}
use Rattle.l1.specs.Measures.{size}
use Rattle.stored.specs.Bytes.{byte}
use Rattle.stored.specs.Stored.{node_bytes, root_from, bytes_from, stored, Storable}
use Rattle.stored.specs.Layout.{node_start, NodeIs, TreeAt, at_int, at_bool, at_op, at_if, at_assign, at_deref, at_skip, at_seq, at_while}
use Rattle.stored.specs.Refusals.{locations, Holds}
use Rattle.stored.specs.Answers.{Opens}
use Rattle.stored.proofs.Opens.{headed, all_nodes, few_places}
use Rattle.stored.proofs.Parts.{part, part_join, bytes, take_bytes, halves, node_part}
use Rattle.stored.proofs.Signed.{signed_in_range, unsigned_signed}
use Rattle.stored.proofs.Subtrees.{subtrees}

module _ (b : List ℕ) (small : (k : ℕ) → byte b k < 256) where
  -- the bytes of n nodes and of the one after them
  one_more : (f n i : ℕ) → f + n ≡ i → part b f (1 + n) ≡ part b f n ++ part b i 1
  one_more f n i h = let e : 1 + n ≡ n + 1 = omega arith in rw (e, ← part_join, h)

  -- a node with two children
  two_written : {i k x y : ℕ} (e₁ e₂ : Expr) (f : ℕ) → NodeIs b i k 0 x y 0 → y + 1 ≡ i → x + size e₂ ≡ y
      → f + (1 + size e₁ + size e₂) ≡ i + 1 → node_start (i + 1) ≤ length b
      → part b f (size e₁) ≡ bytes_from f e₁ → part b (f + size e₁) (size e₂) ≡ bytes_from (f + size e₁) e₂
      → part b f (1 + size e₁ + size e₂) ≡ bytes_from f e₁ ++ bytes_from (f + size e₁) e₂ ++ node_bytes k 0 (root_from f e₁) (root_from (f + size e₁) e₂) 0
  two_written {i} {k} {x} {y} e₁ e₂ f n p q h inside w₁ w₂ =
      let e : 1 + size e₁ + size e₂ ≡ 1 + (size e₁ + size e₂) = omega arith in
      let r₁ : root_from f e₁ ≡ x = omega arith in
      let r₂ : root_from (f + size e₁) e₂ ≡ y = omega arith in
      rw (e, one_more f (size e₁ + size e₂) i (omega arith), ← part_join b f (size e₁) (size e₂), w₁, w₂, r₁, r₂)
      (ap (λ (l : List ℕ). bytes_from f e₁ ++ bytes_from (f + size e₁) e₂ ++ l) (node_part b i inside small n))

  -- what a node says in bytes 4-7 is a number of 32 bits, and y and z are its halves
  word : {i k a x y z : ℕ} → NodeIs b i k a x y z
      → (y * 65536 + z < 4294967296) × ((y * 65536 + z) / 65536 ≡ y) × ((y * 65536 + z) % 65536 ≡ z)
  word {i} {y = y} {z = z} nd =
      let s4 = small (node_start i + 4) in let s5 = small (node_start i + 4 + 1) in let s6 = small (node_start i + 6) in let s7 = small (node_start i + 6 + 1) in
      let upper : y < 65536 = omega arith in
      let lower : z < 65536 = omega arith in
      omega arith

  -- the bytes from node f to node i are the nodes of the tree at node i
  pub written : {i : ℕ} {e : Expr} → TreeAt b i e → (f : ℕ) → f + size e ≡ i + 1 → node_start (i + 1) ≤ length b → part b f (size e) ≡ bytes_from f e
  unfolding bytes_from
  written (at_int {i} {y} {z} {n} nd v) f h inside =
      let g : f ≡ i = omega arith in
      let w = word nd in
      rw (g, v, unsigned_signed (y * 65536 + z) w.0, w.1, w.2) (node_part b i inside small nd)
  written (at_bool {i} nd) f h inside = let g : f ≡ i = omega arith in rw g (node_part b i inside small nd)
  written (at_op {e₁ = e₁} {e₂ = e₂} nd p q t₁ t₂) f h inside =
      two_written e₁ e₂ f nd p q h inside (written t₁ f (omega arith) (omega arith)) (written t₂ (f + size e₁) (omega arith) (omega arith))
  written (at_if {i} {x} {y} {z} {e₁} {e₂} {e₃} nd p q r t₁ t₂ t₃) f h inside =
      let w₁ = written t₁ f (omega arith) (omega arith) in
      let w₂ = written t₂ (f + size e₁) (omega arith) (omega arith) in
      let w₃ = written t₃ (f + size e₁ + size e₂) (omega arith) (omega arith) in
      let e : 1 + size e₁ + size e₂ + size e₃ ≡ 1 + (size e₁ + size e₂ + size e₃) = omega arith in
      let a : f + (size e₁ + size e₂) ≡ f + size e₁ + size e₂ = omega arith in
      let r₁ : root_from f e₁ ≡ x = omega arith in
      let r₂ : root_from (f + size e₁) e₂ ≡ y = omega arith in
      let r₃ : root_from (f + size e₁ + size e₂) e₃ ≡ z = omega arith in
      let split = one_more f (size e₁ + size e₂ + size e₃) i (omega arith) in
      rw (e, split, ← part_join b f (size e₁ + size e₂) (size e₃), ← part_join b f (size e₁) (size e₂), a, w₁, w₂, w₃, r₁, r₂, r₃)
      (ap (λ (l : List ℕ). bytes_from f e₁ ++ bytes_from (f + size e₁) e₂ ++ bytes_from (f + size e₁ + size e₂) e₃ ++ l) (node_part b i inside small nd))
  written (at_assign {i} {x} {l} {e} nd p t) f h inside =
      let r : root_from f e ≡ x = omega arith in
      rw (one_more f (size e) i (omega arith), written t f (omega arith) (omega arith), r)
      (ap (λ (l : List ℕ). bytes_from f e ++ l) (node_part b i inside small nd))
  written (at_deref {i} nd) f h inside = let g : f ≡ i = omega arith in rw g (node_part b i inside small nd)
  written (at_skip {i} nd) f h inside = let g : f ≡ i = omega arith in rw g (node_part b i inside small nd)
  written (at_seq {e₁ = e₁} {e₂ = e₂} nd p q t₁ t₂) f h inside =
      two_written e₁ e₂ f nd p q h inside (written t₁ f (omega arith) (omega arith)) (written t₂ (f + size e₁) (omega arith) (omega arith))
  written (at_while {e₁ = e₁} {e₂ = e₂} nd p q t₁ t₂) f h inside =
      two_written e₁ e₂ f nd p q h inside (written t₁ f (omega arith) (omega arith)) (written t₂ (f + size e₁) (omega arith) (omega arith))

  -- what a node of a form holds is within the limits
  int_fits : {i : ℕ} {n : ℤ} → TreeAt b i (int n) → InRange n
  int_fits (at_int {y = y} {z = z} nd v) = rw v (signed_in_range (y * 65536 + z) (word nd).0)

  deref_fits : {i : ℕ} {l : Loc} → TreeAt b i (! l) → l ≤ 255
  deref_fits (at_deref {i} nd) = let h = small (node_start i + 1) in omega arith

  assign_fits : {i : ℕ} {l : Loc} {e : Expr} → TreeAt b i (l := e) → l ≤ 255
  assign_fits (at_assign {i} nd p t) = let h = small (node_start i + 1) in omega arith

  op_number : {i j : ℕ} {o : Op} {e₁ e₂ : Expr} → TreeAt b i (e₁ ‹ o # j › e₂) → j ≡ i
  op_number (at_op nd p q t₁ t₂) = refl

  module _ (ok : Opens b) {e : Expr} (h : Holds b e) where
    pub bytes_are_stored : b ≡ stored (locations b) e
    unfolding stored part bytes
    bytes_are_stored =
        let hd = headed b ok in let n = all_nodes ok h in let l = h.is_last in
        let w = written h.tree 0 (omega arith) (omega arith) in
        let s0 = halves (byte b 0) (byte b 1) (small 1) in
        let s4 = halves (byte b 4) (byte b 5) (small 5) in
        let body : drop 6 b ≡ bytes_from 0 e = sym (take_all (8 * size e) (drop 6 b) (rw length-drop (omega arith))) ∙ w in
        sym (take-append-drop 6 b) ∙ ap₂ ◌++◌ (take_bytes b 0 6 (omega arith)) body
        ∙ rw (n, ← hd.said_bytes, s0.0, s0.1, s4.0, s4.1, hd.version)

    pub tree_is_storable : Storable (locations b) e
    tree_is_storable =
        let hd = headed b ok in let n = all_nodes ok h in let l = h.is_last in
        let s = subtrees b h.tree 0 (omega arith) in
        record {
          few_locations = hd.few_locations;
          few_nodes = omega arith;
          few_places = few_places ok h;
          integers = λ i n k. int_fits (s.stands i _ k);
          read_locations = λ i l k. deref_fits (s.stands i _ k);
          written_locations = λ i l d k. assign_fits (s.stands i _ k);
          numbered = record { own_number = λ {i} k. let q = op_number (s.stands i _ k) in omega arith };
        }
