-- A quarter turn on, the sine is the old cosine and the cosine the old sine negated.
use Rattle.std.proofs.Common.{◌≡◌, ℕ, ◌+◌, ◌/◌, ◌%◌, ◌<◌, neg_ℤ, arith}
use lib.IntN.{neg_ℤ-neg_ℤ}
use Rattle.exact.proofs.MemberLaws.{turn_next}
use Rattle.angle.specs.Steps.{signed_of, quarter_on}

pub signed_quarter : (v : ℕ) → v < 65536 → signed_of (quarter_on v) ≡ ((signed_of v).1, neg_ℤ (signed_of v).0)
unfolding signed_of
signed_quarter v h =
    let q : (v + 16384) % 65536 / 16384 ≡ (v / 16384 + 1) % 4 = omega arith in
    let w : (v + 16384) % 65536 % 16384 ≡ v % 16384 = omega arith in
    rw (q, w) (turn_next neg_ℤ neg_ℤ-neg_ℤ (v / 16384) _ (omega arith))
