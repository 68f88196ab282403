-- What quarter turns of v make of sums over all inputs.
use mathlib.Core.Path.{◌≡◌, refl, sym, ap, ap₂, ◌∙◌}
use Prim.Native.Nat.{ℕ, zero, suc, ◌+◌, ◌^◌, ◌≤◌, ◌<◌}
use native.Mathlib.Nat.{add-zero, add-suc, add_comm}
use native.Mathlib.Omega.{arith}
use lib.IntN.{ℤ, pos, negsuc, neg_ℤ, ◌+ℤ◌, ◌*ℤ◌, +ℤ_idr, +ℤ_assoc, +ℤ_comm, neg_ℤ-+ℤ, neg_ℤ-neg_ℤ, pos-ne-negsuc, *ℤ-zero, *ℤ-negsuc, *ℤ_comm}
use Rattle.radius.specs.Steps.{number_bits}
use Rattle.angle.specs.Steps.{quarter_on}
use Rattle.box_muller.specs.Sample.{samples_of}
use Rattle.box_muller.specs.Theorems.{turned_on, negated}
use Rattle.box_muller.specs.declared.Samples.{Samples}
use Rattle.box_muller.proofs.Theorems.{theorems}
use Rattle.tails.specs.Counts.{one, sum_below, sum_belowℤ, sum_inputs, sum_inputsℤ}
use Rattle.tails.specs.Symmetries.{Symmetries}
use Rattle.tails.proofs.SumLaws.{sum_cong, sum_add}

-- ---- sums of numbers

-- a sum over all v is the same from a quarter turn on
sum_turned : (h : ℕ → ℕ) → sum_below 65536 (λ v. h (quarter_on v)) ≡ sum_below 65536 h
sum_turned h =
    sum_add 49152 16384 (λ v. h (quarter_on v))
    ∙ ap₂ (λ (x y : ℕ). x + y) (sum_cong 49152 _ (λ v. h (16384 + v)) (λ v l. ap h (omega arith))) (sum_cong 16384 _ h (λ v l. ap h (omega arith)))
    ∙ add_comm (sum_below 49152 (λ v. h (16384 + v))) (sum_below 16384 h)
    ∙ sym (sum_add 16384 49152 h)

pub inputs_turned : (f : ℕ) → f ≤ 49 → (number : Samples → ℕ) → sum_inputs f (λ r. number (turned_on r)) ≡ sum_inputs f number
unfolding sum_inputs
inputs_turned f few number =
    sum_cong 65536 (λ v. sum_below (2 ^ number_bits) (λ k. number (turned_on (samples_of f k v)))) (λ v. sum_below (2 ^ number_bits) (λ k. number (samples_of f k (quarter_on v))))
    (λ v l. sum_cong (2 ^ number_bits) _ _ (λ k _. ap number (sym (theorems.quarter_turn_lem f k v few l))))
    ∙ sum_turned (λ v. sum_below (2 ^ number_bits) (λ k. number (samples_of f k v)))

-- ---- sums of signed numbers

sumℤ_cong : (n : ℕ) (f g : ℕ → ℤ) → ((i : ℕ) → i < n → f i ≡ g i) → sum_belowℤ n f ≡ sum_belowℤ n g
unfolding sum_belowℤ
sumℤ_cong zero f g same = refl
sumℤ_cong (suc n) f g same = ap₂ (λ (x y : ℤ). x +ℤ y) (sumℤ_cong n f g (λ i h. same i (omega arith))) (same n (omega arith))

sumℤ_add : (m n : ℕ) (f : ℕ → ℤ) → sum_belowℤ (m + n) f ≡ sum_belowℤ m f +ℤ sum_belowℤ n (λ i. f (m + i))
unfolding sum_belowℤ
sumℤ_add m zero f = rw (add-zero m) (sym (+ℤ_idr (sum_belowℤ m f)))
sumℤ_add m (suc n) f =
    rw (add-suc m n)
    (ap (λ (x : ℤ). x +ℤ f (m + n)) (sumℤ_add m n f) ∙ +ℤ_assoc (sum_belowℤ m f) (sum_belowℤ n (λ i. f (m + i))) (f (m + n)))

sumℤ_neg : (n : ℕ) (f : ℕ → ℤ) → sum_belowℤ n (λ i. neg_ℤ (f i)) ≡ neg_ℤ (sum_belowℤ n f)
unfolding sum_belowℤ
sumℤ_neg zero f = refl
sumℤ_neg (suc n) f = ap (λ (x : ℤ). x +ℤ neg_ℤ (f n)) (sumℤ_neg n f) ∙ sym (neg_ℤ-+ℤ (sum_belowℤ n f) (f n))

sumℤ_turned : (h : ℕ → ℤ) → sum_belowℤ 65536 (λ v. h (quarter_on v)) ≡ sum_belowℤ 65536 h
sumℤ_turned h =
    sumℤ_add 49152 16384 (λ v. h (quarter_on v))
    ∙ ap₂ (λ (x y : ℤ). x +ℤ y) (sumℤ_cong 49152 _ (λ v. h (16384 + v)) (λ v l. ap h (omega arith))) (sumℤ_cong 16384 _ h (λ v l. ap h (omega arith)))
    ∙ +ℤ_comm (sum_belowℤ 49152 (λ v. h (16384 + v))) (sum_belowℤ 16384 h)
    ∙ sym (sumℤ_add 16384 49152 h)

inputsℤ_turned : (f : ℕ) → f ≤ 49 → (number : Samples → ℤ) → sum_inputsℤ f (λ r. number (turned_on r)) ≡ sum_inputsℤ f number
unfolding sum_inputsℤ
inputsℤ_turned f few number =
    sumℤ_cong 65536 (λ v. sum_belowℤ (2 ^ number_bits) (λ k. number (turned_on (samples_of f k v)))) (λ v. sum_belowℤ (2 ^ number_bits) (λ k. number (samples_of f k (quarter_on v))))
    (λ v l. sumℤ_cong (2 ^ number_bits) _ _ (λ k _. ap number (sym (theorems.quarter_turn_lem f k v few l))))
    ∙ sumℤ_turned (λ v. sum_belowℤ (2 ^ number_bits) (λ k. number (samples_of f k v)))

inputsℤ_negated : (f : ℕ) (number other : Samples → ℤ) → ((r : Samples) → other r ≡ neg_ℤ (number r)) → sum_inputsℤ f other ≡ neg_ℤ (sum_inputsℤ f number)
unfolding sum_inputsℤ
inputsℤ_negated f number other same =
    sumℤ_cong 65536 (λ v. sum_belowℤ (2 ^ number_bits) (λ k. other (samples_of f k v))) (λ v. neg_ℤ (sum_belowℤ (2 ^ number_bits) (λ k. number (samples_of f k v))))
    (λ v _. sumℤ_cong (2 ^ number_bits) (λ k. other (samples_of f k v)) (λ k. neg_ℤ (number (samples_of f k v))) (λ k _. same (samples_of f k v))
    ∙ sumℤ_neg (2 ^ number_bits) (λ k. number (samples_of f k v)))
    ∙ sumℤ_neg 65536 (λ v. sum_belowℤ (2 ^ number_bits) (λ k. number (samples_of f k v)))

-- what is its own negative is 0
own_negative : (x : ℤ) → x ≡ neg_ℤ x → x ≡ pos 0
own_negative (pos zero) e = refl
own_negative (pos (suc n)) e = absurd (pos-ne-negsuc (suc n) n e)
own_negative (negsuc n) e = absurd (pos-ne-negsuc (suc n) n (sym e))

by_quarter_turn : (f : ℕ) → f ≤ 49 → (number : Samples → ℤ) → ((r : Samples) → number (turned_on r) ≡ neg_ℤ (number r)) → sum_inputsℤ f number ≡ pos 0
by_quarter_turn f few number same =
    own_negative (sum_inputsℤ f number) (sym (inputsℤ_turned f few number) ∙ inputsℤ_negated f number (λ r. number (turned_on r)) same)

-- half a turn is two quarters
by_half_turn : (f : ℕ) → f ≤ 49 → (number : Samples → ℤ) → ((r : Samples) → number (negated r) ≡ neg_ℤ (number r)) → sum_inputsℤ f number ≡ pos 0
by_half_turn f few number same =
    own_negative (sum_inputsℤ f number)
    (sym (inputsℤ_turned f few (λ r. number (turned_on r)) ∙ inputsℤ_turned f few number) ∙ inputsℤ_negated f number (λ r. number (turned_on (turned_on r))) same)

-- ---- products

times_neg : (a b : ℤ) → a *ℤ neg_ℤ b ≡ neg_ℤ (a *ℤ b)
times_neg a (pos zero) = *ℤ-zero a ∙ sym (ap neg_ℤ (*ℤ-zero a))
times_neg a (pos (suc n)) = *ℤ-negsuc a n
times_neg a (negsuc n) = sym (ap neg_ℤ (*ℤ-negsuc a n) ∙ neg_ℤ-neg_ℤ (a *ℤ pos (suc n)))

square_neg : (a : ℤ) → neg_ℤ a *ℤ neg_ℤ a ≡ a *ℤ a
square_neg a = times_neg (neg_ℤ a) a ∙ ap neg_ℤ (*ℤ_comm (neg_ℤ a) a ∙ times_neg a a) ∙ neg_ℤ-neg_ℤ (a *ℤ a)

cube_neg : (a : ℤ) → neg_ℤ a *ℤ neg_ℤ a *ℤ neg_ℤ a ≡ neg_ℤ (a *ℤ a *ℤ a)
cube_neg a = ap (λ (x : ℤ). x *ℤ neg_ℤ a) (square_neg a) ∙ times_neg (a *ℤ a) a

pub symmetries : Symmetries
symmetries = record {
  turned = λ f few test. inputs_turned f few (λ r. one (test r));
  turned_sum = inputs_turned;
  second = λ f few test. inputs_turned f few (λ r. one (test r.first));
  second_beyond_lem = λ f s few. inputs_turned f few _;
  signs = λ f few test. inputs_turned f few (λ r. one (test r.second)) ∙ inputs_turned f few (λ r. one (test r.first));
  half_turn = by_half_turn;
  quarter_turn_lem = by_quarter_turn;
  mean = λ f few. by_half_turn f few (λ r. r.first) (λ r. refl);
  third_moment = λ f few. by_half_turn f few (λ r. r.first *ℤ r.first *ℤ r.first) (λ r. cube_neg r.first);
  correlation = λ f few. by_quarter_turn f few (λ r. r.first *ℤ r.second) (λ r. times_neg r.second r.first ∙ ap neg_ℤ (*ℤ_comm r.second r.first));
}
