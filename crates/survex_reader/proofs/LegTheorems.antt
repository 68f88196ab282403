-- The theorems of specs/LegTheorems.antt.
use Prim.Native.Nat.{ℕ, suc, ◌+◌, ◌-◌, ◌*◌, ◌/◌, ◌^◌, ◌≤◌}
use native.Mathlib.Omega.{arith}
use native.Mathlib.Nat.{pow-succ'}
use lib.Pow.{pow-add}
use mathlib.Core.Path.{◌≡◌, refl, sym, ap, ◌∙◌}
use mathlib.Core.Bool.{Bool, true, false, not, ◌||◌}
use mathlib.Core.List.{List, [], ◌∷◌, ◌++◌}
use lib.Dec.{leb}
use lib.ListN.{length, drop_of_length-le}
use borrow.Author.Tests.{leb-true, ltb-false}
use Rattle.text.specs.Fields.{all, digit, value}
use Rattle.text.proofs.Decimal.{value_append}
use Rattle.noisy_shot.specs.Rounding.{turn_steps}
use Rattle.text.proofs.Tests.{test, ◌and◌, each}
use Rattle.survex_reader.specs.Limits.{whole_digits, compass_turn}
use Rattle.survex_reader.specs.Legs.{whole, pointed, decimals, digits_up_to, is_decimal, scaled, step_of}
use Rattle.survex_reader.specs.LegTheorems.{Nearest, Theorems}
use Rattle.survex_reader.proofs.Facts.{step_below}
use Rattle.survex_reader.proofs.Forms.{form_passes, range_passes, not_formed, not_ranged, both_pass}

-- the whole part of x / d + 1/2 is the nearest, halves up
nearest_is : (x s : ℕ) → s ≡ (2 * x + 36000) / 72000 → Nearest x 36000 s
nearest_is x s e = record { nearest = λ t. omega (arith, e); upper = λ t h. omega (arith, e, h) }

-- digits after others
value_from : (n : ℕ) (xs : List ℕ) → value n xs ≡ n * 10 ^ length xs + value 0 xs
unfolding value
value_from n [] = omega arith
value_from n (x ∷ xs) = step (10 ^ length xs) (value_from (n * 10 + (x - 48)) xs) (value_from (0 * 10 + (x - 48)) xs) (pow-succ' 10 (length xs))
  where
    step : (p : ℕ) → value (n * 10 + (x - 48)) xs ≡ (n * 10 + (x - 48)) * p + value 0 xs
        → value (0 * 10 + (x - 48)) xs ≡ (0 * 10 + (x - 48)) * p + value 0 xs → 10 ^ suc (length xs) ≡ 10 * p
        → value (n * 10 + (x - 48)) xs ≡ n * 10 ^ suc (length xs) + value (0 * 10 + (x - 48)) xs
    step p f g h = rw (f, g, h) (omega arith)

-- no more decimals than there may be
few_decimals : (most : ℕ) (l : List ℕ) → is_decimal most l ≡ true → length (decimals l) ≤ most
unfolding is_decimal
few_decimals most l h =
    go (pointed l) refl (each (test (digits_up_to whole_digits (whole l)) and test (not (pointed l) || digits_up_to most (decimals l))) h).1
  where
    go : (b : Bool) → pointed l ≡ b → not b || digits_up_to most (decimals l) ≡ true → length (decimals l) ≤ most
    go false e u = omega (arith, ap length (drop_of_length-le l {i = suc (length (whole l))} (omega (arith, ltb-false (length (whole l)) (length l) e))))
    go true e u = leb-true _ _ (each (test (leb 1 (length (decimals l))) and test (leb (length (decimals l)) most) and test (all digit (decimals l))) u).0.1

exact_is : (most : ℕ) (l : List ℕ) → is_decimal most l ≡ true → scaled most l * 10 ^ length (decimals l) ≡ value 0 (whole l ++ decimals l) * 10 ^ most
unfolding scaled
exact_is most l h =
    let k = length (decimals l) in
    let p : 10 ^ (most - k) * 10 ^ k ≡ 10 ^ most = sym (pow-add 10 (most - k) k) ∙ ap (λ (n : ℕ). 10 ^ n) (omega (arith, few_decimals most l h)) in
    rw (value_append 0 (whole l) (decimals l), value_from (value 0 (whole l)) (decimals l))
    (step (value 0 (whole l)) (value 0 (decimals l)) (10 ^ most) (10 ^ (most - k)) (10 ^ k) p)
  where
    step : (w v m q r : ℕ) → q * r ≡ m → (w * m + v * q) * r ≡ (w * r + v) * m
    step w v m q r e = rw (← e) (omega arith)

pub theorems : Theorems
unfolding step_of
theorems = record {
  formed = form_passes;
  ranged = range_passes;
  get_21 = not_formed;
  get_22 = not_ranged;
  get_leg = both_pass;
  bearing = λ c. ((2 * (c * turn_steps) + compass_turn) / (2 * compass_turn), nearest_is (c * turn_steps) _ refl, refl);
  no_half = λ c s e. omega (arith, e);
  whole_turn = refl;
  step_below = step_below;
  exact = exact_is;
}
