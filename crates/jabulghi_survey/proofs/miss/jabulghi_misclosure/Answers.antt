-- `jabulghi_misclosure` meets its contract: code, line and both pairs of sums are those of the call, and so is their closeness.
use Rattle.std.proofs.Common.{rules, refl, ap, ◌∙◌, [], ◌∷◌, w64, SFits}
use Rattle.misclosure.specs.declared.Miss.{Miss}
use Rattle.misclosure.proofs.Theorems.{theorems}
use Rattle.jabulghi_survey.proofs.Stored.{stored}
use Rattle.jabulghi_survey.proofs.miss.jabulghi_misclosure.Goals as goal

pub returns : goal.returns
returns c =
    let miss = c.misclosure-miss in
    let east : SFits w64 miss.result.east = search rules in
    let north : SFits w64 miss.result.north = search rules in
    let easting : SFits w64 miss.result.easting = search rules in
    let northing : SFits w64 miss.result.northing = search rules in
    let e = miss.ensures in
    record {
      code = ap (λ (m : Miss). m.code) e;
      sums_after = stored east north refl ∙ ap (λ (m : Miss). m.east ∷ m.north ∷ []) e;
      millimetres_after = stored easting northing refl ∙ ap (λ (m : Miss). m.easting ∷ m.northing ∷ []) e;
      line_after = ap (λ (m : Miss). m.line) e;
      close = λ l k. (theorems.close _ l k).0;
    }
