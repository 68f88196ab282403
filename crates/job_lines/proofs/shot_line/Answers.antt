-- `shot_line` meets its contract.
use Rattle.std.proofs.Common.{refl, sym, ◌∙◌}
use Rattle.job_lines.proofs.Reading.{shot_unnamed, shot_nowhere, shot_unmeasured, shot_undirected, shot_whole}
use Rattle.job_lines.proofs.shot_line.Goals as goal

pub returns-then-not-name_at : goal.returns-then-not-name_at
returns-then-not-name_at c = record { says = shot_unnamed _ _ (sym c.if-not-name_at.true ∙ c.name_at.ensures); names_at = tt }

pub returns-then-not-name_at-2 : goal.returns-then-not-name_at-2
returns-then-not-name_at-2 c =
    let m = sym c.if-not-name_at.false ∙ c.name_at.ensures in
    record { says = shot_nowhere _ _ m (sym c.if-not-name_at-2.true ∙ c.name_at-2.ensures); names_at = tt }

pub returns-in_err-distance : goal.returns-in_err-distance
returns-in_err-distance c =
    let m = sym c.if-not-name_at.false ∙ c.name_at.ensures in
    let n = sym c.if-not-name_at-2.false ∙ c.name_at-2.ensures in
    rw c.from_residual.ensures record { says = shot_unmeasured _ _ m n _ c.digit_string_at.ensures c.in_err-distance.was; names_at = tt }

pub returns-in_err-bearing : goal.returns-in_err-bearing
returns-in_err-bearing c =
    let m = sym c.if-not-name_at.false ∙ c.name_at.ensures in
    let n = sym c.if-not-name_at-2.false ∙ c.name_at-2.ensures in
    rw c.from_residual-in_err-bearing.ensures record {
      says = shot_undirected _ _ m n _ c.digit_string_at.ensures _ c.digit_string_at-2.ensures _ c.in_ok-distance.was c.in_err-bearing.was;
      names_at = tt;
    }

pub returns : goal.returns
returns c =
    let m = sym c.if-not-name_at.false ∙ c.name_at.ensures in
    let n = sym c.if-not-name_at-2.false ∙ c.name_at-2.ensures in
    record {
      says = shot_whole _ _ m n _ c.digit_string_at.ensures _ c.digit_string_at-2.ensures _ _ c.in_ok-distance.was c.in_ok-bearing.was;
      names_at = (refl, refl);
    }
