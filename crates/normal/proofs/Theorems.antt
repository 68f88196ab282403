-- The theorems of specs/Meaning.antt and specs/NormalRows.antt.
use Rattle.tails.proofs.Symmetry.{symmetries}
use Rattle.normal.specs.Meaning.{Meaning}
use Rattle.normal.specs.NormalRows.{NormalTails}
use Rattle.normal.proofs.Slopes.{area_of_nothing, slope_least, slope_most}
use Rattle.normal.proofs.Meet.{tails_meet, every_least, every_most}
use Rattle.normal.proofs.Located.{located}
use Rattle.normal.proofs.AtMostOne.{at_most_one}
use Rattle.normal.proofs.NearOne.{near_one}
use Rattle.normal.proofs.Digits.{digits}
use Rattle.normal.proofs.Rows.{table, table18}

pub meaning : Meaning
meaning = record {
  meet = tails_meet;
  located = located;
  begins = area_of_nothing;
  slope_least = slope_least;
  slope_most = slope_most;
  at_most_one = at_most_one;
  near_one = near_one;
  digits = digits;
}

pub normal_tails : NormalTails
normal_tails = record { table = table; table18 = table18; second = symmetries.second_beyond_lem; least = every_least; most = every_most }
