-- `jabulghi_intervals` meets its contract: code, line and all ends are those of the call, and so is what they span.
use Rattle.std.proofs.Common.{rules, refl, ap, ◌∙◌, w64, SFits}
use Rattle.misclosure.specs.declared.IntervalSums.{IntervalSums}
use Rattle.misclosure.proofs.Theorems.{theorems}
use Rattle.jabulghi_survey.specs.Stored.{four_of}
use Rattle.jabulghi_survey.proofs.Stored.{stored}
use Rattle.jabulghi_survey.proofs.miss.jabulghi_intervals.Goals as goal

pub returns : goal.returns
returns c =
    let r = c.intervals-r.result in
    let e = c.intervals-r.ensures in
    let east-low : SFits w64 r.east.low = search rules in
    let east-high : SFits w64 r.east.high = search rules in
    let north-low : SFits w64 r.north.low = search rules in
    let north-high : SFits w64 r.north.high = search rules in
    let easting-low : SFits w64 r.easting.low = search rules in
    let easting-high : SFits w64 r.easting.high = search rules in
    let northing-low : SFits w64 r.northing.low = search rules in
    let northing-high : SFits w64 r.northing.high = search rules in
    record {
      code = ap (λ (m : IntervalSums). m.code) e;
      sums_after = stored east-low east-high (stored north-low north-high refl) ∙ ap (λ (m : IntervalSums). four_of m.east m.north) e;
      millimetres_after = stored easting-low easting-high (stored northing-low northing-high refl) ∙ ap (λ (m : IntervalSums). four_of m.easting m.northing) e;
      line_after = ap (λ (m : IntervalSums). m.line) e;
      spans = λ l k. theorems.spans _ l k;
    }
