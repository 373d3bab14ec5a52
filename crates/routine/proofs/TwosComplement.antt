-- A number of 32 bits, read as two's complement: what the cast gives.
use Prim.Native.Nat.{ℕ}
use native.Mathlib.Omega.{arith}
use mathlib.Core.Path.{◌≡◌, ap}
use mathlib.Core.Bool.{cond}
use lib.Dec.{ltb}
use lib.IntN.{pos, negsuc}
use mir.Syntax.{w32}
use mir.Val.{to_z}
use Rattle.stored.specs.Bytes.{signed}

pub cast_is_signed : (u : ℕ) → to_z w32 u ≡ signed u
unfolding signed
cast_is_signed u = ap (λ (n : ℕ). cond (ltb u 2147483648) (pos u) (negsuc n)) (omega arith)
