-- The cosine and the sine of w from the tables, against the exact rotation.
use Rattle.std.proofs.Common.{◌≡◌, ℕ, ◌+◌, ◌-◌, ◌*◌, ◌/◌, ◌%◌, ◌^◌, ◌<◌, ◌≤◌, min, Bool, true, false, not, ℤ, pos, neg_ℤ, refl, ap, ◌∙◌, mod-lt, mul-le-mul, mul-le-mul_left, mul-zero, zero-mul, arith, pow_pos}
use native.Mathlib.Nat.{div-add-mod, min-le_right, lt_of_mul-lt-mul_left}
use native.Mathlib.Decide.{dec_le}
use lib.IntN.{neg_ℤ-neg_ℤ}
use Rattle.exact.specs.Rotation.{rotation, compose, coarse, fine, quotient_up}
use Rattle.exact.specs.Pair.{Enclosure, along, negate, sine_of, cosine_of, members}
use Rattle.exact.proofs.MemberLaws.{turn_keeps}
use Rattle.tables.specs.Promise.{Promise, Bounds, NearestIn}
use Rattle.tables.proofs.Promise.{promise}
use Rattle.tables.proofs.Bounds.{bounds}
use Rattle.tables.specs.Tables.{cos_coarse, sin_coarse, cos_fine, sin_fine, entry_of}
use Rattle.angle.specs.Steps.{cosine, sine, cosine_at, sine_at, signed_of}
use Rattle.angle.specs.Margin.{Member}
use Rattle.angle.proofs.Products.{HalfUnit, FourEntries, cosine_low, cosine_high, sine_low, sine_high}

-- a sign turned twice over
along_both : (b : Bool) (x : ℤ) → along (not b) (neg_ℤ x) ≡ along b x
along_both true x = refl
along_both false x = neg_ℤ-neg_ℤ x

-- a quotient rounded up, times the divisor
rounded_up : (x y z : ℕ) → 0 < y → z ≤ quotient_up x y → y * z < x + y
rounded_up x y z p h = omega (arith, div-add-mod (x + (y - 1)) y, mul-le-mul_left y h)

-- a quotient rounded down
rounded_down : (x y : ℕ) → 0 < y → x ≤ y * (x / y) + y
rounded_down x y p = omega (arith, div-add-mod x y, mod-lt x p)

-- the two margins as fractions at 2^30
margin_low : (n G z : ℕ) → n * G ≤ 2 ^ 30 * z + 3 * n → (G - 3) * n ≤ z * 2 ^ 30
margin_low n G z h = from (dec_le G 3)
  where
    from : Dec (G ≤ 3) → (G - 3) * n ≤ z * 2 ^ 30
    from (yes k) =
        let e : G - 3 ≡ 0 = omega arith in
        rw (e, zero-mul) (omega arith)
    from (no k) =
        let e : G - 3 + 3 ≡ G = omega arith in
        omega (arith, ap (λ (x : ℕ). n * x) e)

half_unit : {low high x : ℕ} → NearestIn 30 96 low high x → x ≤ 2 ^ 30 → HalfUnit (2 ^ 30) (2 ^ 96) x low high
half_unit p s = record { below = omega (arith, p.below); above = omega (arith, p.above); small = s }

-- the ends of the composed rotation, rounded outward to whole numbers over n, against the floors of the tables' products over R
module _ {R n C D c s cl ch sl sh cl' ch' sl' sh' : ℕ} (e : FourEntries R n C D c s cl ch sl sh cl' ch' sl' sh') (some : 0 < n) (scale : 0 < R) where
  cosine_ends : D * s ≤ C * c → (n * ((C * c - D * s) / R) ≤ R * ((cl * cl' - sh * sh') / n) + 3 * n)
      × (R * min n (quotient_up (ch * ch' - sl * sl') n) ≤ n * ((C * c - D * s) / R + 3))
  cosine_ends order =
      let G = (C * c - D * s) / R in
      let d = div-add-mod (C * c - D * s) R in
      let m = mod-lt (C * c - D * s) scale in
      let z = min n (quotient_up (ch * ch' - sl * sl') n) in
      let up = rounded_up (ch * ch' - sl * sl') n z some (min-le_right n _) in (
        cosine_low e G ((cl * cl' - sh * sh') / n) (omega (arith, d, order)) (omega (arith, rounded_down (cl * cl' - sh * sh') n some)),
        high G z up (omega (arith, d, m, order)) (dec_le (sl * sl') (ch * ch')),
      )
    where
      high : (G z : ℕ) → n * z < ch * ch' - sl * sl' + n → C * c < R * G + R + D * s → Dec (sl * sl' ≤ ch * ch') → R * z ≤ n * (G + 3)
      high G z up hG (yes k) = cosine_high e G z hG (omega (arith, up))
      high G z up hG (no k) =
          let zero-end : z < 1 = lt_of_mul-lt-mul_left n (omega (arith, up)) in
          let t : z ≡ 0 = omega arith in
          rw (t, mul-zero) (omega arith)

  sine_ends : (n * ((D * c + C * s) / R) ≤ R * ((sl * cl' + cl * sl') / n) + 3 * n)
      × (R * min n (quotient_up (sh * ch' + ch * sh') n) ≤ n * ((D * c + C * s) / R + 3))
  sine_ends =
      let G = (D * c + C * s) / R in
      let d = div-add-mod (D * c + C * s) R in
      let m = mod-lt (D * c + C * s) scale in
      let z = min n (quotient_up (sh * ch' + ch * sh') n) in (
        sine_low e G ((sl * cl' + cl * sl') / n) (omega (arith, d)) (rounded_down (sl * cl' + cl * sl') n some),
        sine_high e G z (omega (arith, d, m)) (omega (arith, rounded_up (sh * ch' + ch * sh') n z some (min-le_right n _))),
      )

module _ (promise : Promise) (bounds : Bounds) (w : ℕ) (small : w < 16384) where
  high_bits : w / 128 < 128
  high_bits = omega arith

  low_bits : w % 128 < 128
  low_bits = omega arith

  entries : FourEntries (2 ^ 30) (2 ^ 96) (entry_of cos_coarse 0 (w / 128)) (entry_of sin_coarse 0 (w / 128)) (entry_of cos_fine 0 (w % 128)) (entry_of sin_fine 0 (w % 128))
      (coarse 96 (w / 128)).cos_low (coarse 96 (w / 128)).cos_high (coarse 96 (w / 128)).sin_low (coarse 96 (w / 128)).sin_high
      (fine 96 (w % 128)).cos_low (fine 96 (w % 128)).cos_high (fine 96 (w % 128)).sin_low (fine 96 (w % 128)).sin_high
  entries = record {
    some = omega arith;
    enough = omega arith;
    cos_coarse = half_unit (promise.cos_coarse_lem (w / 128) high_bits) (bounds.cos_coarse_lem (w / 128));
    sin_coarse = half_unit (promise.sin_coarse_lem (w / 128) high_bits) (bounds.sin_coarse_lem (w / 128));
    cos_fine = half_unit (promise.cos_fine_lem (w % 128) low_bits) (bounds.cos_fine_lem (w % 128));
    sin_fine = half_unit (promise.sin_fine_lem (w % 128) low_bits) (bounds.sin_fine_lem (w % 128));
  }

  scaled_product : (x y : ℕ) → x ≤ 2 ^ 30 → y ≤ 2 ^ 30 → x * y ≤ 2 ^ 60
  scaled_product x y h k = mul-le-mul h k

  cosine_member : Member (pos (cosine_at w)) (cosine_of 96 (rotation 96 w))
  unfolding cosine_at cosine rotation compose
  cosine_member =
      let ends = cosine_ends entries (pow_pos 96) (omega arith) (bounds.cosine (w / 128) (w % 128)) in
      let most = scaled_product _ _ (bounds.cos_coarse_lem (w / 128)) (bounds.cos_fine_lem (w % 128)) in
      record {
        size = _;
        value = refl;
        most = omega (arith, most);
        low = margin_low (2 ^ 96) _ _ ends.0;
        high = omega (arith, ends.1);
      }

  sine_member : Member (pos (sine_at w)) (sine_of 96 (rotation 96 w))
  unfolding sine_at sine rotation compose
  sine_member =
      let ends = sine_ends entries (pow_pos 96) (omega arith) in
      let most = bounds.sine (w / 128) (w % 128) in
      record {
        size = _;
        value = refl;
        most = omega (arith, most);
        low = margin_low (2 ^ 96) _ _ ends.0;
        high = omega (arith, ends.1);
      }

member_negate : (G : ℤ) (e : Enclosure) → Member G e → Member (neg_ℤ G) (negate e)
member_negate G e m = record {
  size = m.size;
  value = along_both e.negative G ∙ m.value;
  most = m.most;
  low = m.low;
  high = m.high;
}

-- the sine and the cosine for v, with their signs, against the exact members
pub members_near : (v : ℕ) → Member (signed_of v).0 (members 96 v).0 × Member (signed_of v).1 (members 96 v).1
unfolding signed_of members
members_near v =
    turn_keeps neg_ℤ negate Member member_negate (v / 16384) _ _
    (sine_member promise bounds (v % 16384) (omega arith)) (cosine_member promise bounds (v % 16384) (omega arith))
