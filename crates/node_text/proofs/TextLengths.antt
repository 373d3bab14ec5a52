-- The length of a node's text is at most 40 bytes for each node of the tree; a table holds it.
use Prim.Native.Nat.{ℕ, ◌+◌, ◌*◌, ◌≤◌, ◌<◌}
use native.Mathlib.Omega.{arith}
use mathlib.Core.Path.{◌≡◌, ◌∙◌}
use mathlib.Core.Bool.{Bool, true, false}
use mathlib.Core.List.{List}
use lib.IntN.{ℤ}
use lib.ListN.{length, length-append, get_or, set}
use lib.Seq.{get_or-set_same, get_or-set_other}
use borrow.Author.Count.{below_more}
use Rattle.l1.specs.Syntax.{plus, geq, Expr}
use Rattle.l1.specs.Measures.{size}
use Rattle.l1.specs.Text.{decimal, integer, truth, text}
use Rattle.l1.proofs.Range.{in_range_mag}
use Rattle.stored.specs.Bytes.{byte, pair}
use Rattle.stored.specs.Layout.{node_start, arg, TreeAt, at_int, at_bool, at_op, at_if, at_assign, at_deref, at_skip, at_seq, at_while}
use Rattle.stored.specs.Refusals.{count}
use Rattle.stored.proofs.Signed.{signed_in_range}
use Rattle.stored.proofs.Subtrees.{size_fits}
use Rattle.routine.specs.Forms.{integer_of}
use Rattle.routine.specs.Open.{IsOpen}
use Rattle.routine.specs.declared.Sizes.{Sizes}
use Rattle.routine.proofs.Standing.{is_headed, nodes_stand}
use Rattle.node_text.specs.Texts.{text_at}
use Rattle.node_text.specs.Lengths.{LengthsOf}
use Rattle.node_text.proofs.NumberLengths.{few_digits, few_bytes}

pub truth_length : (t : Bool) → length (truth t) ≤ 5
truth_length true = omega arith
truth_length false = omega arith

-- in bytes no location and no integer is long
module _ (b : List ℕ) (small : (k : ℕ) → byte b k < 256) where
  location_length : (i : ℕ) {l : ℕ} → arg b i ≡ l → length (decimal l) ≤ 20
  location_length i {l} e = few_digits l (omega (arith, small (node_start i + 1)))

  pair_below : (k : ℕ) → pair b k < 65536
  pair_below k = omega (arith, small k, small (k + 1))

  integer_length : (i : ℕ) {n : ℤ} → n ≡ integer_of b i → length (integer n) ≤ 21
  integer_length i {n} e =
      few_bytes n (rw e (in_range_mag (signed_in_range _ (omega (arith, pair_below (node_start i + 4), pair_below (node_start i + 6))))))

  text_length : {i : ℕ} {e : Expr} → TreeAt b i e → length (text e) ≤ 40 * size e
  unfolding text
  text_length (at_int {i = i} {n = m} n v) = omega (arith, integer_length i {n = m} (rw (n.its_second, n.its_third) v))
  text_length (at_bool {t = t} n) = omega (arith, truth_length t)
  text_length (at_op {o = plus} n p q t₁ t₂) = simp length-append (omega (arith, text_length t₁, text_length t₂))
  text_length (at_op {o = geq} n p q t₁ t₂) = simp length-append (omega (arith, text_length t₁, text_length t₂))
  text_length (at_if n p q r t₁ t₂ t₃) = simp length-append (omega (arith, text_length t₁, text_length t₂, text_length t₃))
  text_length (at_assign {i = i} n p t) = simp length-append (omega (arith, location_length i n.its_arg, text_length t))
  text_length (at_deref {i = i} n) = omega (arith, location_length i n.its_arg)
  text_length (at_skip n) = omega arith
  text_length (at_seq n p q t₁ t₂) = simp length-append (omega (arith, text_length t₁, text_length t₂))
  text_length (at_while n p q t₁ t₂) = simp length-append (omega (arith, text_length t₁, text_length t₂))

pub length_fits : {b : List ℕ} {z : Sizes} {i : ℕ} → IsOpen b z → i < count b → ((k : ℕ) → byte b k < 256) → length (text_at b i) ≤ 163840
length_fits {b} {i = i} o h small =
    let t = nodes_stand o.opens o.holds i h in
    omega (arith, text_length b small t, size_fits b t, (is_headed o.opens o.holds).few_nodes)

module _ (b table : List ℕ) {i : ℕ} (t : LengthsOf b i table) where
  -- what the table holds of a child
  pub held : {j k x : ℕ} → x ≡ get_or table j 0 → j ≡ k → k < i → x ≡ length (text_at b k)
  held {j} {k} {x} e q l = e ∙ rw q (t k l).0

  -- the table, one node longer
  pub lengths_more : {x : ℕ} → i < length table → x ≡ length (text_at b i) → length (text_at b i) ≤ 163840 → LengthsOf b (i + 1) (set table i x)
  lengths_more {x} l e f =
      below_more _ _ (λ j k. (get_or-set_other table i j x 0 (omega arith) ∙ (t j k).0, (t j k).1)) (get_or-set_same table i x 0 l ∙ e, f)
