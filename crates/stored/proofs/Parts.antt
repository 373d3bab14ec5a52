-- The bytes of some nodes that stand one after another: joined, split, and those of one node.
use Prim.Native.Nat.{ℕ, zero, suc, ◌+◌, ◌*◌, ◌/◌, ◌%◌, ◌≤◌, ◌<◌}
use native.Mathlib.Omega.{arith}
use native.Mathlib.Numerals.{add-one}
use native.Mathlib.Nat.{add_assoc}
use mathlib.Core.Path.{◌≡◌, refl, sym, ◌∙◌, ap}
use mathlib.Core.List.{List, [], ◌∷◌, ◌++◌}
use lib.ListN.{length, get_or, take, drop, length-take, length-drop}
use lib.Seq.{take-add, drop-drop, drop-cons, take_at, drop_at}
use Rattle.stored.specs.Bytes.{byte}
use Rattle.stored.specs.Stored.{node_bytes}
use Rattle.stored.specs.Layout.{node_start, NodeIs}

-- the bytes of n nodes from node f on
unfoldable pub part : List ℕ → ℕ → ℕ → List ℕ
part b f n = take (8 * n) (drop (node_start f) b)

pub part_join : (b : List ℕ) (f n m : ℕ) → part b f n ++ part b (f + n) m ≡ part b f (n + m)
unfolding part
part_join b f n m =
    let e : 8 * (n + m) ≡ 8 * n + 8 * m = omega arith in
    let d : node_start (f + n) ≡ node_start f + 8 * n = omega arith in
    rw (e, take-add, drop-drop, d)

-- k bytes from byte at on
unfoldable pub bytes : List ℕ → ℕ → ℕ → List ℕ
bytes b at zero = []
bytes b at (suc k) = byte b at ∷ bytes b (at + 1) k

pub take_bytes : (b : List ℕ) (at k : ℕ) → at + k ≤ length b → take k (drop at b) ≡ bytes b at k
unfolding bytes
take_bytes b at zero h = refl
take_bytes b at (suc k) h =
    rw (drop-cons b at 0 (omega arith), ← add-one at)
    (ap (λ (l : List ℕ). byte b at ∷ l) (take_bytes b (at + 1) k (omega arith)))

-- the two bytes of a number are found again
pub halves : (x y : ℕ) → y < 256 → ((x * 256 + y) / 256 ≡ x) × ((x * 256 + y) % 256 ≡ y)
halves x y h = (omega arith, omega arith)

module _ (b : List ℕ) (i : ℕ) (inside : node_start (i + 1) ≤ length b) where
  own_bytes : part b i 1
      ≡ byte b (node_start i) ∷ byte b (node_start i + 1) ∷ byte b (node_start i + 2) ∷ byte b (node_start i + 2 + 1)
      ∷ byte b (node_start i + 4) ∷ byte b (node_start i + 4 + 1) ∷ byte b (node_start i + 6) ∷ byte b (node_start i + 6 + 1) ∷ []
  unfolding part bytes
  own_bytes = take_bytes b (node_start i) 8 (omega arith) ∙ simp add_assoc

  -- the bytes of node i, where they are bytes, are those of its parts
  pub node_part : {k a x y z : ℕ} → ((j : ℕ) → byte b j < 256) → NodeIs b i k a x y z → part b i 1 ≡ node_bytes k a x y z
  node_part {k} {a} {x} {y} {z} small n =
      let s1 = halves (byte b (node_start i + 2)) (byte b (node_start i + 2 + 1)) (small (node_start i + 2 + 1)) in
      let s2 = halves (byte b (node_start i + 4)) (byte b (node_start i + 4 + 1)) (small (node_start i + 4 + 1)) in
      let s3 = halves (byte b (node_start i + 6)) (byte b (node_start i + 6 + 1)) (small (node_start i + 6 + 1)) in
      own_bytes ∙ rw (← n.its_kind, ← n.its_arg, ← n.its_first, ← n.its_second, ← n.its_third, s1.0, s1.1, s2.0, s2.1, s3.0, s3.1)

  -- and its parts are read from them
  pub part_node : {k a x y z : ℕ} → part b i 1 ≡ node_bytes k a x y z → NodeIs b i k a x y z
  part_node {k} {a} {x} {y} {z} h =
      let e = sym own_bytes ∙ h in
      let g : (n : ℕ) → _ = λ (n : ℕ). ap (λ (l : List ℕ). get_or l n 0) e in
      let h2 : byte b (node_start i + 2) ≡ x / 256 = g 2 in
      let h3 : byte b (node_start i + 2 + 1) ≡ x % 256 = g 3 in
      let h4 : byte b (node_start i + 4) ≡ y / 256 = g 4 in
      let h5 : byte b (node_start i + 4 + 1) ≡ y % 256 = g 5 in
      let h6 : byte b (node_start i + 6) ≡ z / 256 = g 6 in
      let h7 : byte b (node_start i + 6 + 1) ≡ z % 256 = g 7 in
      record { its_kind = g 0; its_arg = g 1; its_first = omega arith; its_second = omega arith; its_third = omega arith }

-- where the nodes from f on are A and then B, the first are A and the others B
pub part_split : (b A B : List ℕ) (f n m : ℕ) → node_start (f + n) ≤ length b → length A ≡ 8 * n → part b f (n + m) ≡ A ++ B
    → (part b f n ≡ A) × (part b (f + n) m ≡ B)
unfolding part
part_split b A B f n m inside la h =
    let j = part_join b f n m ∙ h in
    let lp : length (part b f n) ≡ 8 * n = simp (length-take, length-drop) (omega arith) in (
      sym (take_at (part b f n) (part b (f + n) m) (8 * n) lp) ∙ ap (take (8 * n)) j ∙ take_at A B (8 * n) la,
      sym (drop_at (part b f n) (part b (f + n) m) (8 * n) lp) ∙ ap (drop (8 * n)) j ∙ drop_at A B (8 * n) la,
    )
