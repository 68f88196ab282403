-- The theorems of specs/Theorems.antt.
use native.Mathlib.Omega.{arith}
use Rattle.equidistribution.specs.Equidistribution.{state_bits}
use Rattle.equidistribution.specs.Theorems.{Theorems}
use Rattle.equidistribution.proofs.Rows.{every_row}
use Rattle.equidistribution.proofs.Pairs.{equidistributed, pairs, record_pairs}

pub theorems : Theorems
unfolding state_bits
theorems = record {
  maximal = λ l t low top few. equidistributed l t (every_row l t low top few);
  pairs = λ t few. pairs t (equidistributed 32 t (every_row 32 t (omega arith) (omega arith) (omega arith)));
  records = record_pairs;
}
