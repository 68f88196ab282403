-- `seeds_line` meets its contract.
use Rattle.text.proofs.Readings.{first_not, second_not, third_not, all_there}
use Rattle.job_lines.proofs.Reading.{seeds_first, seeds_second, seeds_both}
use Rattle.job_lines.proofs.seeds_line.Goals as goal

pub returns-in_err-first : goal.returns-in_err-first
returns-in_err-first c = rw c.from_residual.ensures (seeds_first _ _ (first_not _ _ _ _ c.three_at-first.ensures c.in_err-first.was))

pub returns-in_err-first-2 : goal.returns-in_err-first-2
returns-in_err-first-2 c =
    rw c.from_residual-in_err-first-2.ensures (seeds_first _ _ (second_not _ _ _ _ c.three_at-first.ensures c.in_err-first-2.was))

pub returns-in_err-first-3 : goal.returns-in_err-first-3
returns-in_err-first-3 c =
    rw c.from_residual-in_err-first-3.ensures (seeds_first _ _ (third_not _ _ _ _ c.three_at-first.ensures c.in_err-first-3.was))

pub returns-in_err-second : goal.returns-in_err-second
returns-in_err-second c =
    let t = all_there _ _ _ _ c.three_at-first.ensures _ _ _ c.in_ok-first.was c.in_ok-first-2.was c.in_ok-first-3.was in
    rw c.from_residual-in_err-second.ensures (seeds_second _ _ t.0 (first_not _ _ _ _ c.three_at-second.ensures c.in_err-second.was))

pub returns-in_err-second-2 : goal.returns-in_err-second-2
returns-in_err-second-2 c =
    let t = all_there _ _ _ _ c.three_at-first.ensures _ _ _ c.in_ok-first.was c.in_ok-first-2.was c.in_ok-first-3.was in
    rw c.from_residual-in_err-second-2.ensures (seeds_second _ _ t.0 (second_not _ _ _ _ c.three_at-second.ensures c.in_err-second-2.was))

pub returns-in_err-second-3 : goal.returns-in_err-second-3
returns-in_err-second-3 c =
    let t = all_there _ _ _ _ c.three_at-first.ensures _ _ _ c.in_ok-first.was c.in_ok-first-2.was c.in_ok-first-3.was in
    rw c.from_residual-in_err-second-3.ensures (seeds_second _ _ t.0 (third_not _ _ _ _ c.three_at-second.ensures c.in_err-second-3.was))

pub returns : goal.returns
returns c =
    seeds_both _ _ _ c.three_at-first.ensures _ c.three_at-second.ensures (_, _, _) (_, _, _)
    c.in_ok-first.was c.in_ok-first-2.was c.in_ok-first-3.was c.in_ok-second.was c.in_ok-second-2.was c.in_ok-second-3.was
