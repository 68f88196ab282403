-- `job_reader::seeds::seeded` meets its contract.
use Rattle.std.proofs.lemmas.Result.{err_from_is_err_and}
use Rattle.job_reader.proofs.Refused.{seeds_7, seeds_0, seeds_11, seeds_12}
use Rattle.job_reader.proofs.seeds.seeded.Goals as goal

pub returns-in_err-a : goal.returns-in_err-a
returns-in_err-a c =
    let p = err_from_is_err_and c.from_residual.result c.from_residual.ensures.1 in
    let out = c.in_err-a.ensures in
    rw (p.1, p.2, out.0) (seeds_7 _ _ _ _ _ _ (λ h. out.1 h.0))

pub returns-in_err-b : goal.returns-in_err-b
returns-in_err-b c =
    let p = err_from_is_err_and c.from_residual-in_err-b.result c.from_residual-in_err-b.ensures.1 in
    let out = c.in_err-b.ensures in
    rw (p.1, p.2, out.0) (seeds_7 _ _ _ _ _ _ (λ h. out.1 h.1))

pub returns-in_default : goal.returns-in_default
returns-in_default c = seeds_0 _ _ _ _ _ _ _ _ c.in_ok-a.ensures c.in_ok-b.ensures c.in_default.ensures

pub returns-in-FirstStream : goal.returns-in-FirstStream
returns-in-FirstStream c = seeds_11 _ _ _ _ _ _ _ _ c.in_ok-a.ensures c.in_ok-b.ensures (rw c.in-FirstStream.is at c.in-Err.ensures)

pub returns-in_default-refusal : goal.returns-in_default-refusal
returns-in_default-refusal c = seeds_12 _ _ _ _ _ _ _ _ c.in_ok-a.ensures c.in_ok-b.ensures _ c.in-Err.ensures c.in_default-refusal.not-FirstStream
