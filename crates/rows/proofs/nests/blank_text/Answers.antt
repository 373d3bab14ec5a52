-- `rows::nests::blank_text` is as long as its type says. A law says so: to count so many bytes would be too much for the check.
use Rattle.std.proofs.Common.{ℕ}
use Rattle.std.proofs.Math.ListN.{length-replicate}
use Rattle.rows.proofs.nests.blank_text.Goals as goal

pub returns : goal.returns
returns c = length-replicate {A = ℕ} 1400000 0
