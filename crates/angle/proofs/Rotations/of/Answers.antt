-- `Rotations::of` meets its contract: w is the lower bits of z.
use Rattle.std.proofs.Common.{◌≡◌, ℕ, ◌/◌, ◌%◌, ap, ◌∙◌, arith}
use Rattle.tables.specs.Tables.{cos_coarse, sin_coarse, cos_fine, sin_fine, entry_of}
use Rattle.angle.proofs.Rotations.of.Goals as goal

coarse_is : (z : ℕ) → z / 128 % 128 ≡ z % 16384 / 128
coarse_is z = omega arith

fine_is : (z : ℕ) → z % 128 ≡ z % 16384 % 128
fine_is z = omega arith

pub returns : goal.returns
returns c =
    let z = c.args.z in
    let coarse = c.coarse.ensures in
    let fine = c.fine.ensures in
    record {
      cos_coarse_lem = coarse.0 ∙ ap (entry_of cos_coarse 0) (coarse_is z);
      sin_coarse_lem = coarse.1 ∙ ap (entry_of sin_coarse 0) (coarse_is z);
      cos_fine_lem = fine.0 ∙ ap (entry_of cos_fine 0) (fine_is z);
      sin_fine_lem = fine.1 ∙ ap (entry_of sin_fine 0) (fine_is z);
    }
