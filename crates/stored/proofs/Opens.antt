-- What is known of bytes to which no refusal of 1 to 9 is given: their head, and the nodes and the places of their tree.
use Prim.Native.Nat.{ℕ, ◌+◌, ◌*◌, ◌≤◌, ◌<◌}
use native.Mathlib.Omega.{arith}
use native.Mathlib.Decide.{ℕ_discrete}
use mathlib.Core.Path.{◌≡◌}
use mathlib.Core.Logic.Dec
use mathlib.Core.Logic.{inl, inr}
use mathlib.Core.List.{List}
use lib.ListN.{length}
use Rattle.l1.specs.Syntax.{Expr}
use Rattle.l1.specs.Measures.{size, places}
use Rattle.stored.specs.Bytes.{byte, pair}
use Rattle.stored.specs.Refusals.{locations, count, Holds}
use Rattle.stored.specs.Answers.{Opens}
use Rattle.stored.specs.Headed.{Headed}
use Rattle.stored.proofs.Stages.{silent_when}
use Rattle.stored.proofs.Subtrees.{size_fits}

pub not_unequal : (x y : ℕ) → ¬ ¬ (x ≡ y) → x ≡ y
not_unequal x y = (Dec.not-not (ℕ_discrete x y)).0

pub headed : (b : List ℕ) → Opens b → Headed b
headed b ok =
    let (s1, (s2, (s3, (s4, (s5, (s6, more)))))) = ok.passes.all_silent in
    let p2 = not_unequal (pair b 0 + 2) (length b) (silent_when s2) in
    let p6 = not_unequal (pair b 0) (4 + 8 * count b) (silent_when s6) in
    let n4 : ¬ (64 < locations b) = silent_when s4 in
    let n5 : ¬ (count b ≡ 0) = λ h. silent_when s5 (inl h) in
    let n5' : ¬ (4096 < count b) = λ h. silent_when s5 (inr h) in
    record {
      all_bytes = omega arith;
      said_bytes = p6;
      version = not_unequal (byte b 2) 1 (silent_when s3);
      few_locations = omega arith;
      some_nodes = omega arith;
      few_nodes = omega arith;
    }

module _ {b : List ℕ} (ok : Opens b) {e : Expr} (h : Holds b e) where
  -- the root's subtree has all the nodes
  pub all_nodes : size e ≡ count b
  all_nodes =
      let (s1, (s2, (s3, (s4, (s5, (s6, (s7, (s8, more)))))))) = ok.passes.all_silent in
      let whole : ¬ (size e < count b) = λ l. silent_when s8 (e, h, l) in
      omega (arith, size_fits b h.tree, h.is_last)

  pub few_places : places e ≤ 256
  few_places =
      let (s1, (s2, (s3, (s4, (s5, (s6, (s7, (s8, (s9, more))))))))) = ok.passes.all_silent in
      let low : ¬ (256 < places e) = λ l. silent_when s9 (e, h, l) in
      omega arith
