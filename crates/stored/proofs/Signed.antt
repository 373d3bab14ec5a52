-- Two's complement in 32 bits: `signed` and `unsigned` undo one another.
use Prim.Native.Nat.{ℕ, ◌-◌, ◌<◌}
use native.Mathlib.Omega.{arith}
use mathlib.Core.Path.{◌≡◌, refl, ap}
use mathlib.Core.Bool.{Bool, true, false, cond}
use lib.Dec.{ltb, leb→le, le→leb}
use lib.IntN.{ℤ, pos, negsuc}
use lib.Signed.{le_z_yes}
use borrow.Author.Tests.{lt-ltb, le-ltb, ltb-true, ltb-false}
use Rattle.l1.specs.Range.{InRange}
use Rattle.stored.specs.Bytes.{unsigned, signed}

pub signed_in_range : (u : ℕ) → u < 4294967296 → InRange (signed u)
unfolding signed
signed_in_range u h = go (ltb u 2147483648) refl
  where
    go : (t : Bool) → ltb u 2147483648 ≡ t → InRange (cond t (pos u) (negsuc (4294967295 - u)))
    go true e = let p = ltb-true u 2147483648 e in record { not_low = le_z_yes tt; not_high = le_z_yes (le→leb u 2147483647 (omega arith)) }
    go false e =
        let p = ltb-false u 2147483648 e in
        record { not_low = le_z_yes (le→leb (4294967295 - u) 2147483647 (omega arith)); not_high = le_z_yes tt }

pub unsigned_signed : (u : ℕ) → u < 4294967296 → unsigned (signed u) ≡ u
unfolding signed
unsigned_signed u h = go (ltb u 2147483648)
  where
    go : (t : Bool) → unsigned (cond t (pos u) (negsuc (4294967295 - u))) ≡ u
    go true = refl
    go false = omega arith

pub signed_unsigned : (n : ℤ) → InRange n → signed (unsigned n) ≡ n
unfolding signed
signed_unsigned (pos n) r = let h = leb→le n 2147483647 r.not_high.le in rw (lt-ltb n 2147483648 (omega arith))
signed_unsigned (negsuc n) r =
    let h = leb→le n 2147483647 r.not_low.le in
    rw (le-ltb (4294967295 - n) 2147483648 (omega arith)) (ap negsuc (omega arith))

pub unsigned_below : (n : ℤ) → InRange n → unsigned n < 4294967296
unsigned_below (pos n) r = let h = leb→le n 2147483647 r.not_high.le in omega arith
unsigned_below (negsuc n) r = omega arith
