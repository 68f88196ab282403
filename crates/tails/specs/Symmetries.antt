-- What quarter turns make of the distribution over all inputs: proofs/Symmetry.antt proves it.
use Rattle.std.specs.Prelude.{◌≡◌, Bool, ℕ, ◌≤◌, ℤ, pos, neg_ℤ, ◌*ℤ◌}
use Rattle.box_muller.specs.Theorems.{turned_on, negated}
use Rattle.box_muller.specs.declared.Samples.{Samples}
use Rattle.tails.specs.Counts.{count_inputs, sum_inputs, sum_inputsℤ, first_beyond, second_beyond}

pub record Symmetries : Type 0 where
  -- (second, -first) is distributed as (first, second): any test is passed by as many answers of the one as of the other
  pub turned : (f : ℕ) → f ≤ 49 → (test : Samples → Bool) → count_inputs f (λ r. test (turned_on r)) ≡ count_inputs f test
  -- and any number has the same sum
  pub turned_sum : (f : ℕ) → f ≤ 49 → (number : Samples → ℕ) → sum_inputs f (λ r. number (turned_on r)) ≡ sum_inputs f number
  -- first and second samples have one distribution
  pub second : (f : ℕ) → f ≤ 49 → (test : ℤ → Bool) → count_inputs f (λ r. test r.second) ≡ count_inputs f (λ r. test r.first)
  pub second_beyond_lem : (f s : ℕ) → f ≤ 49 → second_beyond f s ≡ first_beyond f s
  -- both signs have one distribution
  pub signs : (f : ℕ) → f ≤ 49 → (test : ℤ → Bool) → count_inputs f (λ r. test (neg_ℤ r.first)) ≡ count_inputs f (λ r. test r.first)
  -- a number that half a turn negates, or a quarter turn, has the sum 0
  pub half_turn : (f : ℕ) → f ≤ 49 → (number : Samples → ℤ) → ((r : Samples) → number (negated r) ≡ neg_ℤ (number r)) → sum_inputsℤ f number ≡ pos 0
  pub quarter_turn_lem : (f : ℕ) → f ≤ 49 → (number : Samples → ℤ) → ((r : Samples) → number (turned_on r) ≡ neg_ℤ (number r)) → sum_inputsℤ f number ≡ pos 0
  -- the mean, the third moment and the correlation of a pair are exactly 0
  pub mean : (f : ℕ) → f ≤ 49 → sum_inputsℤ f (λ r. r.first) ≡ pos 0
  pub third_moment : (f : ℕ) → f ≤ 49 → sum_inputsℤ f (λ r. r.first *ℤ r.first *ℤ r.first) ≡ pos 0
  pub correlation : (f : ℕ) → f ≤ 49 → sum_inputsℤ f (λ r. r.first *ℤ r.second) ≡ pos 0
