-- Sums and counts over the numbers below n, and over all inputs: k from 0 to 2^48 - 1 and v from 0 to 65535. Nobody evaluates them.
use Rattle.std.specs.Prelude.{Bool, cond, ℕ, zero, suc, ◌+◌, ◌^◌, leb, ℤ, pos, nat_abs, ◌+ℤ◌}
use Rattle.radius.specs.Steps.{number_bits, radius_of}
use Rattle.box_muller.specs.Sample.{samples_of}
use Rattle.box_muller.specs.declared.Samples.{Samples}

-- f 0 + f 1 + .. + f (n - 1), of numbers and of signed numbers
unfoldable pub sum_below : ℕ → (ℕ → ℕ) → ℕ
sum_below zero f = 0
sum_below (suc n) f = sum_below n f + f n

unfoldable pub sum_belowℤ : ℕ → (ℕ → ℤ) → ℤ
sum_belowℤ zero f = pos 0
sum_belowℤ (suc n) f = sum_belowℤ n f +ℤ f n

-- 1 for a test that is passed, else 0
abbrev pub one : Bool → ℕ
one passed = cond passed 1 0

-- how many numbers below n pass the test
abbrev pub count_below : ℕ → (ℕ → Bool) → ℕ
count_below n test = sum_below n (λ i. one (test i))

-- the sum over all 2^64 inputs (k, v) of a number that the answer at f fraction bits decides
unfoldable pub sum_inputs : ℕ → (Samples → ℕ) → ℕ
sum_inputs f number = sum_below 65536 (λ v. sum_below (2 ^ number_bits) (λ k. number (samples_of f k v)))

unfoldable pub sum_inputsℤ : ℕ → (Samples → ℤ) → ℤ
sum_inputsℤ f number = sum_belowℤ 65536 (λ v. sum_belowℤ (2 ^ number_bits) (λ k. number (samples_of f k v)))

-- how many inputs have an answer that passes the test
abbrev pub count_inputs : ℕ → (Samples → Bool) → ℕ
count_inputs f test = sum_inputs f (λ r. one (test r))

-- how many inputs give a first sample of size s or more, in units of 2^-f; and a second sample
abbrev pub first_beyond : (f s : ℕ) → ℕ
first_beyond f s = count_inputs f (λ r. leb s (nat_abs r.first))

abbrev pub second_beyond : (f s : ℕ) → ℕ
second_beyond f s = count_inputs f (λ r. leb s (nat_abs r.second))

-- how many k have a radius F of t or more, in units of 2^-20
abbrev pub radius_beyond : ℕ → ℕ
radius_beyond t = count_below (2 ^ number_bits) (λ k. leb t (radius_of k))

-- how many k give, with this v, a first sample of size s or more
abbrev pub first_beyond_at : (f s v : ℕ) → ℕ
first_beyond_at f s v = count_below (2 ^ number_bits) (λ k. leb s (nat_abs (samples_of f k v).first))
