-- `moved` meets its contract.
use Rattle.std.proofs.Common.{arith, ◌≡◌, ◌+◌, ◌-◌, ap, ◌∙◌, ℤ}
use Rattle.angle.proofs.Ranges.{signed_range}
use Rattle.sums.specs.Sums.{sine, cosine}
use Rattle.misclosure.specs.Private.{widened_by}
use Rattle.misclosure.proofs.Machine.{read_turned, read_units, widened_size}
use Rattle.misclosure.proofs.entry.moved.Goals as goal

pub widened-east-requires : goal.widened-east-requires
widened-east-requires c =
    (omega (arith, c.args.s.few, c.args.s.east_size), c.requires.low, c.requires.high, omega (arith, read_units c.args.x.step c.signed_of-turned.ensures))

pub widened-north-requires : goal.widened-north-requires
widened-north-requires c =
    (omega (arith, c.args.s.few, c.args.s.north_size), c.requires.low, c.requires.high, omega (arith, read_units c.args.x.step c.signed_of-turned.ensures))

pub invariant_of-result : goal.invariant_of-result
invariant_of-result c =
    let x = c.args.x in
    let s = c.args.s in
    let k = c.requires in
    let (east, north) = read_turned x.step c.signed_of-turned.ensures in
    let (sines, cosines) = signed_range x.step in
    let lines : s.line - 2 + 1 ≡ s.line + 1 - 2 = omega (arith, s.after_header) in
    record {
      after_header = omega (arith, s.after_header);
      few = omega (arith, k.few);
      east_size = rw (← lines) (widened_size (s.line - 2) s.east _ (sine x.step) x.low x.high (c.widened-east.ensures ∙ ap (λ (g : ℤ). widened_by g x.low x.high s.east) east) s.east_size k.low k.high sines);
      north_size = rw (← lines) (widened_size (s.line - 2) s.north _ (cosine x.step) x.low x.high (c.widened-north.ensures ∙ ap (λ (g : ℤ). widened_by g x.low x.high s.north) north) s.north_size k.low k.high cosines);
    }
