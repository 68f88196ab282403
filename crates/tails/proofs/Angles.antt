-- The sizes of the cosines and of the sines of all angles of a quarter, as lists that a test can run through.
use mathlib.Core.Path.{◌≡◌, refl, sym, ap, ap₂, ◌∙◌}
use mathlib.Core.List.{List, [], ◌∷◌, ◌++◌, zip_with}
use Prim.Native.Nat.{ℕ, ◌+◌, ◌-◌, ◌*◌, ◌/◌, ◌%◌, ◌^◌, ◌<◌}
use native.Mathlib.Nat.{sub-zero}
use native.Mathlib.Omega.{arith}
use lib.IntN.{nat_abs}
use lib.ListN.{length, get_or, length-append}
use Rattle.tables.specs.Values.{cos_coarse_list, sin_coarse_list, cos_fine_list, sin_fine_list}
use Rattle.tables.specs.Tables.{entry_of, cos_coarse, sin_coarse, cos_fine, sin_fine, cos_coarse_is, sin_coarse_is, cos_fine_is, sin_fine_is}
use Rattle.tables.proofs.Entries.{entry_at, lengths}
use Rattle.radius.specs.Steps.{number_bits, radius_of}
use Rattle.angle.specs.Steps.{sine, cosine, sine_at, cosine_at}
use Rattle.box_muller.specs.Steps.{size}
use Rattle.box_muller.specs.Sample.{samples_of}
use Rattle.tails.specs.Counts.{sum_below, sum_inputs}
use Rattle.tails.specs.Tails.{sine_size}
use Rattle.tails.proofs.SumLaws.{sum_cong, sum_front, sum_rows_lem}
use Rattle.tails.proofs.EachAngle.{first_size}
use Rattle.tails.proofs.Quarters.{sum_quarters}

-- the sum of n over a list
unfoldable pub sum_over : (ℕ → ℕ) → List ℕ → ℕ
sum_over n [] = 0
sum_over n (g ∷ gs) = n g + sum_over n gs

-- f of each pair of two lists with each pair of two others
unfoldable pub grid : (ℕ → ℕ → ℕ → ℕ → ℕ) → List ℕ → List ℕ → List ℕ → List ℕ → List ℕ
grid f [] ys us vs = []
grid f (x ∷ xs) [] us vs = []
grid f (x ∷ xs) (y ∷ ys) us vs = zip_with (f x y) us vs ++ grid f xs ys us vs

-- a cosine and a sine of a sum, from the entries of the four tables
abbrev cosine_by : ℕ → ℕ → ℕ → ℕ → ℕ
cosine_by C D c s = (C * c - D * s) / 2 ^ 30

abbrev sine_by : ℕ → ℕ → ℕ → ℕ → ℕ
sine_by C D c s = (D * c + C * s) / 2 ^ 30

abbrev pub cosines_of : (C D c s : List ℕ) → List ℕ
cosines_of = grid cosine_by

abbrev pub sines_of : (C D c s : List ℕ) → List ℕ
sines_of = grid sine_by

abbrev pub cosines : List ℕ
cosines = cosines_of cos_coarse sin_coarse cos_fine sin_fine

abbrev pub sines : List ℕ
sines = sines_of cos_coarse sin_coarse cos_fine sin_fine

-- what holds of the entries holds of the tables
pub by_entries : (P : (C D c s : List ℕ) → Type 0) → P cos_coarse_list sin_coarse_list cos_fine_list sin_fine_list → P cos_coarse sin_coarse cos_fine sin_fine
by_entries P h = rw (cos_coarse_is, sin_coarse_is, cos_fine_is, sin_fine_is) h

-- ---- lengths

length_zip : (f : ℕ → ℕ → ℕ) (xs ys : List ℕ) → length ys ≡ length xs → length (zip_with f xs ys) ≡ length xs
unfolding zip_with
length_zip f [] ys e = refl
length_zip f (x ∷ xs) [] e = absurd (omega (arith, e))
length_zip f (x ∷ xs) (y ∷ ys) e = omega (arith, length_zip f xs ys (omega (arith, e)))

length_grid : (f : ℕ → ℕ → ℕ → ℕ → ℕ) (xs ys us vs : List ℕ) → length ys ≡ length xs → length vs ≡ length us
    → length (grid f xs ys us vs) ≡ length xs * length us
unfolding grid
length_grid f [] ys us vs e d = omega arith
length_grid f (x ∷ xs) [] us vs e d = absurd (omega (arith, e))
length_grid f (x ∷ xs) (y ∷ ys) us vs e d =
    length-append (zip_with (f x y) us vs) (grid f xs ys us vs)
    ∙ omega (arith, length_zip (f x y) us vs d, length_grid f xs ys us vs (omega (arith, e)) d)

quarter_length : (f : ℕ → ℕ → ℕ → ℕ → ℕ) → length (grid f cos_coarse sin_coarse cos_fine sin_fine) ≡ 16384
quarter_length f =
    let l = lengths in
    length_grid f cos_coarse sin_coarse cos_fine sin_fine (omega (arith, l)) (omega (arith, l)) ∙ ap₂ (λ (x y : ℕ). x * y) l.2 l.4

pub cosines_length : length cosines ≡ 16384
cosines_length = quarter_length cosine_by

pub sines_length : length sines ≡ 16384
sines_length = quarter_length sine_by

-- ---- sums

entry : (table : List ℕ) (i : ℕ) → entry_of table 0 i ≡ get_or table i 0
entry table i = entry_at table 0 i (omega arith) ∙ ap (λ (j : ℕ). get_or table j 0) (sub-zero i)

-- the entries at w = 128 a + b
by_place : (f : ℕ → ℕ → ℕ → ℕ → ℕ) (a b : ℕ) → b < 128
    → f (get_or cos_coarse a 0) (get_or sin_coarse a 0) (get_or cos_fine b 0) (get_or sin_fine b 0)
    ≡ f (entry_of cos_coarse 0 ((a * 128 + b) / 128)) (entry_of sin_coarse 0 ((a * 128 + b) / 128)) (entry_of cos_fine 0 ((a * 128 + b) % 128))
    (entry_of sin_fine 0 ((a * 128 + b) % 128))
by_place f a b h =
    let q : (a * 128 + b) / 128 ≡ a = omega arith in
    let r : (a * 128 + b) % 128 ≡ b = omega arith in
    rw (q, r, entry cos_coarse a, entry sin_coarse a, entry cos_fine b, entry sin_fine b) refl

cosine_at_lem : (a b : ℕ) → b < 128 → cosine_by (get_or cos_coarse a 0) (get_or sin_coarse a 0) (get_or cos_fine b 0) (get_or sin_fine b 0) ≡ cosine_at (a * 128 + b)
unfolding cosine_at cosine
cosine_at_lem = by_place cosine_by

sine_at_lem : (a b : ℕ) → b < 128 → sine_by (get_or cos_coarse a 0) (get_or sin_coarse a 0) (get_or cos_fine b 0) (get_or sin_fine b 0) ≡ sine_at (a * 128 + b)
unfolding sine_at sine
sine_at_lem = by_place sine_by

module _ (n : ℕ → ℕ) where
  sum_append : (xs ys : List ℕ) → sum_over n (xs ++ ys) ≡ sum_over n xs + sum_over n ys
  unfolding sum_over
  sum_append [] ys = omega arith
  sum_append (x ∷ xs) ys = omega (arith, sum_append xs ys)

  sum_zip : (f : ℕ → ℕ → ℕ) (xs ys : List ℕ) → length ys ≡ length xs
      → sum_over n (zip_with f xs ys) ≡ sum_below (length xs) (λ b. n (f (get_or xs b 0) (get_or ys b 0)))
  unfolding zip_with sum_over sum_below
  sum_zip f [] ys e = refl
  sum_zip f (x ∷ xs) [] e = absurd (omega (arith, e))
  sum_zip f (x ∷ xs) (y ∷ ys) e =
      ap (λ (m : ℕ). n (f x y) + m) (sum_zip f xs ys (omega (arith, e)))
      ∙ sym (sum_front (length xs) (λ b. n (f (get_or (x ∷ xs) b 0) (get_or (y ∷ ys) b 0))))

  sum_grid : (f : ℕ → ℕ → ℕ → ℕ → ℕ) (xs ys us vs : List ℕ) → length ys ≡ length xs → length vs ≡ length us
      → sum_over n (grid f xs ys us vs) ≡ sum_below (length xs) (λ a. sum_below (length us) (λ b. n (f (get_or xs a 0) (get_or ys a 0) (get_or us b 0) (get_or vs b 0))))
  unfolding grid sum_over sum_below
  sum_grid f [] ys us vs e d = refl
  sum_grid f (x ∷ xs) [] us vs e d = absurd (omega (arith, e))
  sum_grid f (x ∷ xs) (y ∷ ys) us vs e d =
      sum_append (zip_with (f x y) us vs) (grid f xs ys us vs)
      ∙ ap₂ (λ (p q : ℕ). p + q) (sum_zip (f x y) us vs d) (sum_grid f xs ys us vs (omega (arith, e)) d)
      ∙ sym (sum_front (length xs) (λ a. sum_below (length us) (λ b. n (f (get_or (x ∷ xs) a 0) (get_or (y ∷ ys) a 0) (get_or us b 0) (get_or vs b 0)))))

  -- by the index w = 128 a + b
  sum_quarter : (f : ℕ → ℕ → ℕ → ℕ → ℕ) (at : ℕ → ℕ)
      → ((a b : ℕ) → b < 128 → f (get_or cos_coarse a 0) (get_or sin_coarse a 0) (get_or cos_fine b 0) (get_or sin_fine b 0) ≡ at (a * 128 + b))
      → sum_over n (grid f cos_coarse sin_coarse cos_fine sin_fine) ≡ sum_below 16384 (λ w. n (at w))
  sum_quarter f at same =
      let l = lengths in
      let entries : (a b : ℕ) → ℕ = λ a b. f (get_or cos_coarse a 0) (get_or sin_coarse a 0) (get_or cos_fine b 0) (get_or sin_fine b 0) in
      sum_grid f cos_coarse sin_coarse cos_fine sin_fine (omega (arith, l)) (omega (arith, l))
      ∙ ap₂ (λ (x y : ℕ). sum_below x (λ a. sum_below y (λ b. n (entries a b)))) l.2 l.4
      ∙ sum_cong 128 (λ a. sum_below 128 (λ b. n (entries a b))) (λ a. sum_below 128 (λ b. n (at (a * 128 + b))))
      (λ a _. sum_cong 128 (λ b. n (entries a b)) (λ b. n (at (a * 128 + b))) (λ b h. ap n (same a b h)))
      ∙ sym (sum_rows_lem 128 128 (λ w. n (at w)))

  -- a sum over all v of what the size of the sine decides
  pub sum_angles : sum_below 65536 (λ v. n (sine_size v)) ≡ 2 * (sum_over n cosines + sum_over n sines)
  sum_angles =
      sum_quarters n
      ∙ ap₂ (λ (x y : ℕ). 2 * (x + y)) (sym (sum_quarter cosine_by cosine_at cosine_at_lem)) (sym (sum_quarter sine_by sine_at sine_at_lem))

-- the sum over all inputs of a number that the size of the first sample decides
pub inputs_by_angles : (f : ℕ) (number : ℕ → ℕ) → sum_inputs f (λ r. number (nat_abs r.first))
    ≡ 2 * (sum_over (λ g. sum_below (2 ^ number_bits) (λ k. number (size f (radius_of k) g))) cosines
    + sum_over (λ g. sum_below (2 ^ number_bits) (λ k. number (size f (radius_of k) g))) sines)
unfolding sum_inputs
inputs_by_angles f number =
    let at : ℕ → ℕ = λ g. sum_below (2 ^ number_bits) (λ k. number (size f (radius_of k) g)) in
    sum_cong 65536 (λ v. sum_below (2 ^ number_bits) (λ k. number (nat_abs (samples_of f k v).first))) (λ v. at (sine_size v))
    (λ v hv. sum_cong (2 ^ number_bits) _ _ (λ k hk. ap number (first_size f k v hk hv)))
    ∙ sum_angles at
