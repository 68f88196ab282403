-- The table of specs/Rows.antt, by a test that antt computes.
use mathlib.Core.List.{zip_with}
use native.Mathlib.Omega.{arith}
use Rattle.exact.proofs.SeriesLaws.{scaled_top, scaled_bottom}
use Rattle.box_muller.specs.Steps.{fraction_bits}
use Rattle.tails.proofs.Angles.{grid, cosines_of, sines_of, cosines, sines, by_entries}
use Rattle.tail_rows.specs.Rows.{rows, TailRows}
use Rattle.tail_rows.proofs.Passes.{most_from, least_from}
use Rattle.tail_rows.proofs.Starts.{most_share, least_share}
use Rattle.tail_rows.proofs.RowTest.{most, least, in_range, passed}
use Rattle.tail_rows.proofs.Rows.{all_passed, Tested, all_hold}

tested : Tested fraction_bits rows cosines sines
unfolding all_passed passed in_range most least most_from least_from most_share least_share scaled_top scaled_bottom grid zip_with
tested = by_entries (λ C D c s. Tested fraction_bits rows (cosines_of C D c s) (sines_of C D c s)) tt

pub tail_rows : TailRows
tail_rows = record { table = all_hold fraction_bits (omega arith) rows tested }
