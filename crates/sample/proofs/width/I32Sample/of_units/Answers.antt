-- `of_units` keeps the lowest 32 bits, which is what two's complement keeps.
use Rattle.std.proofs.Common.{◌∙◌}
use Rattle.std.proofs.Math.Facts.{to_z-of_z}
use Rattle.std.specs.Int.{w32}
use Rattle.sample.proofs.StoredLaws.{cut32}
use Rattle.sample.proofs.width.I32Sample.of_units.Goals as goal

pub returns : goal.returns
returns c =
    to_z-of_z {w = w32} (record { sfits = c.cast_signed.type_inv })
    ∙ cut32 c.args.units c.ranges.units c.cast_unsigned.ensures c.cast_signed.ensures
