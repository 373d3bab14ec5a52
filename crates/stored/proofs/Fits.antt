-- What `Storable` asks of the nodes of a tree, of a row of nodes that stand from node f on; it holds of the children's rows too.
use Prim.Native.Nat.{ℕ, ◌+◌, ◌≤◌}
use native.Mathlib.Omega.{arith}
use mathlib.Core.Path.{◌≡◌}
use mathlib.Core.List.{List, ◌++◌}
use lib.IntN.{ℤ}
use lib.ListN.{length, length-append}
use Rattle.l1.specs.Syntax.{Op, Loc, Expr, int, ◌‹◌#◌›◌, ◌:=◌, !◌}
use Rattle.l1.specs.Range.{InRange}
use Rattle.l1.specs.Measures.{size}
use Rattle.l1.specs.Refused.{nodes, Nth}
use Rattle.l1.proofs.Nodes.{nth_left, nth_right, nodes_length}
use Rattle.stored.specs.Stored.{Storable}

pub record Fits (f : ℕ) (ds : List Expr) : Type 0 where
  pub integers : (i : ℕ) (n : ℤ) → Nth ds i (int n) → InRange n
  pub read_locations : (i : ℕ) (l : Loc) → Nth ds i (! l) → l ≤ 255
  pub written_locations : (i : ℕ) (l : Loc) (d : Expr) → Nth ds i (l := d) → l ≤ 255
  pub numbered : (i j : ℕ) (o : Op) (e₁ e₂ : Expr) → Nth ds i (e₁ ‹ o # j › e₂) → j ≡ f + i

pub storable_fits : {m : ℕ} {e : Expr} → Storable m e → Fits 0 (nodes e)
storable_fits s = record {
  integers = s.integers;
  read_locations = s.read_locations;
  written_locations = s.written_locations;
  numbered = λ i j o e₁ e₂ h. let p = s.numbered.own_number h in omega arith;
}

module _ (ds cs : List Expr) {f : ℕ} (fits : Fits f (ds ++ cs)) where
  pub fits_left : Fits f ds
  fits_left = record {
    integers = λ i n h. fits.integers i n (nth_left cs h);
    read_locations = λ i l h. fits.read_locations i l (nth_left cs h);
    written_locations = λ i l d h. fits.written_locations i l d (nth_left cs h);
    numbered = λ i j o e₁ e₂ h. fits.numbered i j o e₁ e₂ (nth_left cs h);
  }

  pub fits_right : {g : ℕ} → f + length ds ≡ g → Fits g cs
  fits_right e = record {
    integers = λ i n h. fits.integers (length ds + i) n (nth_right ds h);
    read_locations = λ i l h. fits.read_locations (length ds + i) l (nth_right ds h);
    written_locations = λ i l d h. fits.written_locations (length ds + i) l d (nth_right ds h);
    numbered = λ i j o e₁ e₂ h. let p = fits.numbered (length ds + i) j o e₁ e₂ (nth_right ds h) in omega arith;
  }

-- the first two of several trees in a row
module _ (e₁ e₂ : Expr) (ds : List Expr) {f : ℕ} (fits : Fits f (nodes e₁ ++ nodes e₂ ++ ds)) where
  pub fits_first : Fits f (nodes e₁)
  fits_first = fits_left (nodes e₁) (nodes e₂) (fits_left (nodes e₁ ++ nodes e₂) ds fits)

  pub fits_second : Fits (f + size e₁) (nodes e₂)
  fits_second = fits_right (nodes e₁) (nodes e₂) (fits_left (nodes e₁ ++ nodes e₂) ds fits) (omega (arith, nodes_length e₁))

  pub fits_rest : Fits (f + size e₁ + size e₂) ds
  fits_rest = fits_right (nodes e₁ ++ nodes e₂) ds fits (simp length-append (omega (arith, nodes_length e₁, nodes_length e₂)))
