-- The theorems of specs/Tails.antt.
use Rattle.tails.specs.Tails.{Tails}
use Rattle.tails.proofs.Rayleigh.{radius_tail, radius_close_tail}
use Rattle.tails.proofs.EachAngle.{each_angle, each_angle_closer}

pub tails : Tails
tails = record { radius = radius_tail; radius_closer = radius_close_tail; each_angle = each_angle; each_angle_closer = each_angle_closer }
