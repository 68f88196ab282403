-- `job::walk::write_listing` meets its contract.
use Rattle.std.proofs.lemmas.Result.{err_from_is_err_and}
use Rattle.job.specs.Job.{listing_of}
use Rattle.job.proofs.Going.{missing, wrote_listed, end_holds, end_adds}
use Rattle.job.proofs.walk.write_listing.Goals as goal

pub returns-in_err-s : goal.returns-in_err-s
unfolding listing_of
returns-in_err-s c =
    let p = err_from_is_err_and c.from_residual.result c.from_residual.ensures.1 in
    rw (p.1, p.2) c.in_err-s.ensures

pub returns-in_err-count : goal.returns-in_err-count
unfolding listing_of
returns-in_err-count c =
    let p = err_from_is_err_and c.from_residual-in_err-count.result c.from_residual-in_err-count.ensures.1 in
    rw (p.1, p.2) (missing _ _ _ _ _ c.put_header.ensures.1 c.in_ok-s.ensures _ c.in_err-count.ensures.verdict)

pub add_row-requires : goal.add_row-requires
add_row-requires c =
    end_adds _ _ _ _ _ c.put_header.ensures.1 c.in_ok-s.ensures _ c.in_ok-count.ensures.count c.end_row.result c.end_row.ensures.puts c.end_row.ensures.length_in_bounds

pub returns : goal.returns
unfolding listing_of
returns c =
    let count = c.in_ok-count.ensures.count in
    let k = end_holds _ _ _ _ _ c.put_header.ensures.1 c.in_ok-s.ensures _ count c.end_row.result c.end_row.ensures.puts in
    let a = c.add_row.ensures in
    wrote_listed _ _ _ _ _ c.put_header.ensures.1 c.in_ok-s.ensures _ count _ _ (rw (← k.0) a.0) (rw (← k.1) a.1)
