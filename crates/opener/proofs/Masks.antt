-- A table under its mask has an entry for each node of a row that it is for: of the three sizes.
use Rattle.std.proofs.Common.{ℕ, ◌≤◌, arith, ◌∙◌}
use lib.Bits.{and_mask}
use Rattle.opener.specs.Tables.{Covers}

pub covers_small : {n : ℕ} → n ≤ 64 → Covers 64 n
covers_small h j l = and_mask j 6 ∙ omega arith

pub covers_middle : {n : ℕ} → n ≤ 512 → Covers 512 n
covers_middle h j l = and_mask j 9 ∙ omega arith

pub covers_large : {n : ℕ} → n ≤ 4096 → Covers 4096 n
covers_large h j l = and_mask j 12 ∙ omega arith
