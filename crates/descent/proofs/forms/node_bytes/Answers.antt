-- The high byte of a number of 16 bits is below 256 by itself.
use Rattle.std.proofs.Common.{ℕ, ◌≡◌, ◌/◌, ◌%◌, ◌<◌, get_or, refl, arith}
use Rattle.std.proofs.Math.Nat.{mod-eq_of_lt}
use Rattle.routine.proofs.KindTags.{tag_is_kind}
use Rattle.descent.proofs.forms.node_bytes.Goals as goal

high : (n : ℕ) → n < 65536 → n / 256 % 256 ≡ n / 256
high n l = mod-eq_of_lt (omega arith)

pub returns : goal.returns
returns c =
    rw (
      tag_is_kind,
      c.to_be_bytes.ensures,
      c.to_be_bytes-2.ensures,
      c.to_be_bytes-3.ensures,
      high (get_or c.args.parts 0 0) (omega arith),
      high (get_or c.args.parts 1 0) (omega arith),
      high (get_or c.args.parts 2 0) (omega arith),
    )
    refl
