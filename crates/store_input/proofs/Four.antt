-- `trace` reads back the number in four bytes.
use Prim.Native.Nat.{ℕ, ◌<◌}
use native.Mathlib.Omega.{arith}
use mathlib.Core.Path.{◌≡◌}
use Rattle.stored.specs.Trace.{four}
use Rattle.store_input.specs.Taken.{four_bytes}

pub four_read : (x : ℕ) → x < 4294967296 → four (four_bytes x) 0 ≡ x
four_read x h = omega arith
