-- `of_units` keeps the lowest 16 bits, which is what two's complement keeps.
use Rattle.std.proofs.Common.{◌∙◌}
use Rattle.std.proofs.Math.Facts.{to_z-of_z}
use Rattle.std.specs.Int.{w16}
use Rattle.sample.proofs.StoredLaws.{cut16}
use Rattle.sample.proofs.width.I16Sample.of_units.Goals as goal

pub returns : goal.returns
returns c =
    to_z-of_z {w = w16} (record { sfits = c.cast_signed.type_inv })
    ∙ cut16 c.args.units c.ranges.units c.cast_unsigned.ensures c.cast_signed.ensures
