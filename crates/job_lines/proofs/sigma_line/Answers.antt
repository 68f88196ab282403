-- `sigma_line` meets its contract.
use Rattle.job_lines.proofs.Reading.{sigma_first, sigma_second, sigma_both}
use Rattle.job_lines.proofs.sigma_line.Goals as goal

pub returns-in_err-distance : goal.returns-in_err-distance
returns-in_err-distance c = rw c.from_residual.ensures (sigma_first _ _ _ c.digit_string_at.ensures c.in_err-distance.was)

pub returns-in_err-bearing : goal.returns-in_err-bearing
returns-in_err-bearing c =
    rw c.from_residual-in_err-bearing.ensures
    (sigma_second _ _ _ c.digit_string_at.ensures _ c.digit_string_at-2.ensures _ c.in_ok-distance.was c.in_err-bearing.was)

pub returns : goal.returns
returns c =
    sigma_both _ _ _ c.digit_string_at.ensures _ c.digit_string_at-2.ensures _ _ c.in_ok-distance.was c.in_ok-bearing.was
