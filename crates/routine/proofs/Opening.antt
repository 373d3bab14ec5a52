-- A routine that was opened is open.
use Prim.Native.Nat.{ℕ, ◌+◌, ◌-◌}
use native.Mathlib.Omega.{arith}
use mathlib.Core.Path.{◌≡◌, refl}
use mathlib.Core.List.{List}
use Rattle.stored.specs.Refusals.{count, Holds}
use Rattle.stored.specs.Answers.{opens, Opening, open_opens}
use Rattle.stored.proofs.Reader.{read_tree_lem}
use Rattle.l1.specs.Syntax.{Expr}
use Rattle.routine.specs.declared.Sizes.{Sizes}
use Rattle.routine.specs.Open.{root_of, IsOpen}

holds_root : (b : List ℕ) {e : Expr} → Holds b e → Holds b (root_of b)
holds_root b {e} h =
    let r : count b - 1 ≡ h.root = omega (arith, h.is_last) in
    let q : root_of b ≡ e = rw r (read_tree_lem b (h.root + 1) h.tree (omega arith)) in
    rw q h

pub opening_opens : {b : List ℕ} {z : Sizes} → Opening b (opens z.locations z.nodes) → IsOpen b z
opening_opens {b} {z} o = go o refl refl
  where
    go : {m n : ℕ} → Opening b (opens m n) → z.locations ≡ m → z.nodes ≡ n → IsOpen b z
    go (open_opens ok h) p q = record { sizes = (q, p); opens = ok; holds = holds_root b h }
