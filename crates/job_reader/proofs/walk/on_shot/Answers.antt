-- `job_reader::walk::on_shot` meets its contract.
use Rattle.std.proofs.Common.{arith, refl, lt-ltb, le-ltb}
use Rattle.job_reader.specs.Limits.{most_distance, most_bearing}
use Rattle.job_reader.specs.Setting.{setting_on}
use Rattle.job_reader.proofs.Refused.{shot_8, shot_9, shot_7, shot_0}
use Rattle.job_reader.proofs.walk.on_shot.Goals as goal

pub returns-then-p-lt3 : goal.returns-then-p-lt3
returns-then-p-lt3 c = λ text. shot_8 _ _ _ _ _ (omega (arith, c.if-p-lt3.true))

pub returns-then-p-gt-LAST_LINE : goal.returns-then-p-gt-LAST_LINE
returns-then-p-gt-LAST_LINE c =
    λ text. shot_9 _ _ _ _ _ (omega (arith, c.if-p-lt3.false)) (omega (arith, c.if-p-gt-LAST_LINE.true))

pub returns-then-x-gt-MOST_DISTANCE : goal.returns-then-x-gt-MOST_DISTANCE
returns-then-x-gt-MOST_DISTANCE c =
    λ text. shot_7 _ _ _ _ _ (omega (arith, c.if-p-lt3.false)) (omega (arith, c.if-p-gt-LAST_LINE.false)) (rw (lt-ltb most_distance _ c.if-x-gt-MOST_DISTANCE.true))

pub returns-then-x-gt-MOST_BEARING : goal.returns-then-x-gt-MOST_BEARING
returns-then-x-gt-MOST_BEARING c =
    λ text. shot_7 _ _ _ _ _ (omega (arith, c.if-p-lt3.false)) (omega (arith, c.if-p-gt-LAST_LINE.false))
    (rw (le-ltb most_distance _ c.if-x-gt-MOST_DISTANCE.false, lt-ltb most_bearing _ c.if-x-gt-MOST_BEARING.true))

pub returns : goal.returns
unfolding setting_on
returns c = λ text. (
  shot_0 _ _ _ _ _ (omega (arith, c.if-p-lt3.false)) (omega (arith, c.if-p-gt-LAST_LINE.false))
      (omega (arith, c.if-x-gt-MOST_DISTANCE.false)) (omega (arith, c.if-x-gt-MOST_BEARING.false)),
  refl,
)
