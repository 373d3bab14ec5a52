-- `routine::signed_at` meets its contract: the cast is two's complement.
use Rattle.std.proofs.Common.{◌∙◌, ap}
use mir.Syntax.{w32}
use mir.Facts.{to_z-of_z}
use Rattle.stored.specs.Bytes.{signed}
use Rattle.routine.proofs.TwosComplement.{cast_is_signed}
use Rattle.routine.proofs.signed_at.Goals as goal

pub returns : goal.returns
returns c =
    to_z-of_z {w = w32} (record { sfits = c.cast_signed.type_inv })
    ∙ c.cast_signed.ensures
    ∙ cast_is_signed c.four_at.result
    ∙ ap signed c.four_at.ensures
