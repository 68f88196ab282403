-- How many k give a sample of size s or more at one angle.
use mathlib.Core.Path.{◌≡◌, ap, ◌∙◌}
use mathlib.Core.Bool.{true, false}
use Prim.Native.Nat.{zero, ℕ, suc, ◌+◌, ◌-◌, ◌*◌, ◌/◌, ◌^◌, ◌≤◌, ◌<◌}
use native.Mathlib.Nat.{lt_of_mul-lt-mul_right, mul-le-mul_left, div-lt_iff_lt-mul, le-div_iff_mul-le, div-add-mod, mod-lt}
use native.Mathlib.Omega.{arith}
use lib.Dec.{leb}
use lib.IntN.{nat_abs}
use lib.Pow.{pow_pos, pow-add}
use borrow.Author.Tests.{leb-true, leb-false, le-leb, lt-leb}
use Rattle.radius.specs.Steps.{number_bits, radius_of}
use Rattle.angle.specs.Steps.{signed_of}
use Rattle.box_muller.specs.Steps.{size}
use Rattle.box_muller.specs.Sample.{first_of, samples_of}
use Rattle.box_muller.specs.declared.Samples.{Samples}
use Rattle.box_muller.proofs.Closeness.{accepts}
use Rattle.box_muller.proofs.RoundingLaws.{size_zero, size_of}
use Rattle.tails.specs.Counts.{one, count_below, first_beyond_at}
use Rattle.tails.specs.Tails.{RayleighTail, threshold, least_radius, close_from, sine_size}
use Rattle.tails.proofs.SumLaws.{sum_cong, sum_zero}
use Rattle.tails.proofs.Pigeonhole.{count_mono}
use Rattle.tails.proofs.Rayleigh.{tail, close_tail}

-- the number of k whose F with a sine or cosine of size g gives size s or more
abbrev pub beyond_at : (f s g : ℕ) → ℕ
beyond_at f s g = count_below (2 ^ number_bits) (λ k. leb s (size f (radius_of k) g))

-- halves up: x over 2 H to nearest, H = 2^(49-f), is at least s just where x is at least (2 s - 1) H
odd_multiple : (f s : ℕ) → threshold f (suc s) ≡ (2 * s + 1) * 2 ^ (49 - f)
odd_multiple f s = ap (λ (n : ℕ). n * 2 ^ (49 - f)) (omega arith)

half_up : (f x s : ℕ) → 0 < s → s * (2 * 2 ^ (49 - f)) ≤ x + 2 ^ (49 - f) → threshold f s ≤ x
half_up f x zero some h = elim some [ ]
half_up f x (suc s) some h = rw (odd_multiple f s) (omega (arith, h))

half_down : (f x s : ℕ) → 0 < s → x + 2 ^ (49 - f) < s * (2 * 2 ^ (49 - f)) → x < threshold f s
half_down f x zero some h = elim some [ ]
half_down f x (suc s) some h = rw (odd_multiple f s) (omega (arith, h))

threshold_pos : (f s : ℕ) → 0 < s → 0 < threshold f s
threshold_pos f zero some = elim some [ ]
threshold_pos f (suc s) some = rw (odd_multiple f s) (omega (arith, pow_pos (49 - f)))

-- F g ≥ c just where F is above (c - 1) / g
above_quotient : (c F g : ℕ) → 0 < g → 0 < c → c ≤ F * g → (c - 1) / g + 1 ≤ F
above_quotient c F g positive some h =
    let l = (div-lt_iff_lt-mul {k = g} {x = c - 1} {y = F} positive).1 (omega (arith, h)) in
    omega arith

up_to_quotient : (c F g : ℕ) → 0 < g → F * g < c → F < (c - 1) / g + 1
up_to_quotient c F g positive h =
    let b = c - 1 in
    lt_of_mul-lt-mul_right g (omega (arith, h, div-add-mod b g, mod-lt b positive))

module _ (f : ℕ) (few : f ≤ 49) where
  pub halves : 2 ^ (50 - f) ≡ 2 * 2 ^ (49 - f)
  halves =
      let e : 50 - f ≡ 1 + (49 - f) = omega arith in
      ap (λ (n : ℕ). 2 ^ n) e ∙ pow-add 2 1 (49 - f)

  module _ (s : ℕ) (some : 0 < s) where
    reached : (F g : ℕ) → leb s (size f F g) ≡ true → threshold f s ≤ F * g
    unfolding size
    reached F g e =
        let h = (le-div_iff_mul-le {x = s} {y = F * g + 2 ^ (49 - f)} (pow_pos (50 - f))).0 (leb-true s _ e) in
        half_up f (F * g) s some (rw halves at h)

    missed : (F g : ℕ) → leb s (size f F g) ≡ false → F * g < threshold f s
    unfolding size
    missed F g e =
        let h = (div-lt_iff_lt-mul {x = F * g + 2 ^ (49 - f)} {y = s} (pow_pos (50 - f))).0 (leb-false s _ e) in
        half_down f (F * g) s some (rw halves at h)

    module _ (g : ℕ) (positive : 0 < g) where
      just_reached : (k : ℕ) → leb s (size f (radius_of k) g) ≡ true → least_radius f s g ≤ radius_of k
      just_reached k passes = above_quotient (threshold f s) (radius_of k) g positive (threshold_pos f s some) (reached (radius_of k) g passes)

      just_missed : (k : ℕ) → leb s (size f (radius_of k) g) ≡ false → radius_of k < least_radius f s g
      just_missed k fails = up_to_quotient (threshold f s) (radius_of k) g positive (missed (radius_of k) g fails)

      pub size_tail : RayleighTail (beyond_at f s g) (least_radius f s g - 7) (least_radius f s g + 6)
      size_tail = tail (λ k. leb s (size f (radius_of k) g)) (least_radius f s g) just_reached just_missed

      pub size_close_tail : close_from ≤ least_radius f s g → RayleighTail (beyond_at f s g) (least_radius f s g - 1) (least_radius f s g + 1)
      size_close_tail = close_tail (λ k. leb s (size f (radius_of k) g)) (least_radius f s g) just_reached just_missed

  -- a sine or cosine of 0 has none
  pub none_at_zero : (s : ℕ) → 0 < s → beyond_at f s 0 ≡ 0
  none_at_zero s some = sum_zero (2 ^ number_bits) _ (λ k. ap (λ (n : ℕ). one (leb s n)) (size_zero f (radius_of k) few) ∙ ap one (lt-leb s 0 some))

  -- a larger sine or cosine has no fewer
  pub more_at : (s g g' : ℕ) → g ≤ g' → beyond_at f s g ≤ beyond_at f s g'
  unfolding size
  more_at s g g' h =
      count_mono (2 ^ number_bits) (λ k. leb s (size f (radius_of k) g)) (λ k. leb s (size f (radius_of k) g'))
      λ k passes.
      let x = (le-div_iff_mul-le {x = s} {y = radius_of k * g + 2 ^ (49 - f)} (pow_pos (50 - f))).0 (leb-true s _ passes) in
      le-leb s _ ((le-div_iff_mul-le {x = s} {y = radius_of k * g' + 2 ^ (49 - f)} (pow_pos (50 - f))).1
      (omega (arith, x, mul-le-mul_left (radius_of k) h)))

-- the size of an accepted first sample
pub first_size : (f k v : ℕ) → k < 2 ^ number_bits → v < 65536 → nat_abs (samples_of f k v).first ≡ size f (radius_of k) (sine_size v)
unfolding first_of
first_size f k v hk hv = ap (λ (r : Samples). nat_abs r.first) (accepts f k v hk hv) ∙ size_of f (radius_of k) (signed_of v).0

first_beyond_at_lem : (f s v : ℕ) → v < 65536 → first_beyond_at f s v ≡ beyond_at f s (sine_size v)
first_beyond_at_lem f s v hv = sum_cong (2 ^ number_bits) _ _ (λ k hk. ap (λ (n : ℕ). one (leb s n)) (first_size f k v hk hv))

pub each_angle : (f s v : ℕ) → f ≤ 49 → 0 < s → v < 65536 → 0 < sine_size v
    → RayleighTail (first_beyond_at f s v) (least_radius f s (sine_size v) - 7) (least_radius f s (sine_size v) + 6)
each_angle f s v few some hv positive = rw (first_beyond_at_lem f s v hv) (size_tail f few s some (sine_size v) positive)

pub each_angle_closer : (f s v : ℕ) → f ≤ 49 → 0 < s → v < 65536 → 0 < sine_size v → close_from ≤ least_radius f s (sine_size v)
    → RayleighTail (first_beyond_at f s v) (least_radius f s (sine_size v) - 1) (least_radius f s (sine_size v) + 1)
each_angle_closer f s v few some hv positive close = rw (first_beyond_at_lem f s v hv) (size_close_tail f few s some (sine_size v) positive close)
