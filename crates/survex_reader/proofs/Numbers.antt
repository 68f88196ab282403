-- Numbers with decimals: their digits, and what they say.
use Prim.Native.Nat.{ℕ, suc, ◌+◌, ◌-◌, ◌*◌, ◌^◌, ◌≤◌, ◌<◌}
use native.Mathlib.Omega.{arith}
use native.Mathlib.Numerals.{add-one}
use native.Mathlib.Nat.{pow-le-pow_right, mul-le-mul}
use mathlib.Core.Path.{◌≡◌, sym, ap, subst, ◌∙◌}
use mathlib.Core.Bool.{true, false}
use mathlib.Core.List.{List}
use lib.Dec.{leb}
use lib.ListN.{length, take, drop, length-drop, drop_of_length-le}
use lib.Seq.{take_all}
use borrow.Author.Tests.{le-leb, lt-ltb, le-ltb, leb-true}
use Rattle.text.specs.Limits.{most_digits, decimal_bound}
use Rattle.text.specs.Ascii.{ascii}
use Rattle.text.specs.Scan.{one_of, up_to}
use Rattle.text.specs.Fields.{all, digit, value as value·of, few_digits, Spells}
use Rattle.std.proofs.Common.{Option, Some, None}
use Rattle.text.proofs.Readings.{there, not_there}
use Rattle.text.proofs.Tests.{test, ◌and◌, each}
use Rattle.text.proofs.Decimal.{value_below}
use Rattle.text.proofs.Scan.{run_length, run_take}
use Rattle.survex_reader.specs.Limits.{whole_digits, tape_decimals}
use Rattle.survex_reader.specs.Legs.{whole, digits_up_to, is_decimal, scaled, Reads}
use Rattle.survex_reader.specs.Private.{DecimalsOf, few_decimals}

-- when so many digits decide
module _ (most : ℕ) (l : List ℕ) where
  pub digits_few : 0 < length l → length l ≤ most → most ≤ most_digits → few_digits l ≡ digits_up_to most l
  unfolding few_digits
  digits_few h k m = rw (le-leb 1 (length l) (omega arith), le-leb (length l) most k, le-leb (length l) 10 (omega arith))

  -- what they spell is below a bound
  module _ (m : most ≤ most_digits) (r : Option ℕ) (s : Spells (digits_up_to most l) l r) (n : ℕ) (e : r ≡ Some n) where
    pub digits_below : n < decimal_bound
    digits_below =
        let (t, u) = there (digits_up_to most l) (value·of 0 l) r n s e in
        let ((some, few), digits) = each (test (leb 1 (length l)) and test (leb (length l) most) and test (all digit l)) t in
        let p : 10 ^ length l ≤ 10 ^ 10 = pow-le-pow_right (omega arith) {i = length l} {j = 10}
        (omega (arith, leb-true (length l) most few)) in
        omega (arith, u, value_below 0 l digits, p)

pub power_below : (n : ℕ) → n ≤ tape_decimals → 10 ^ n ≤ 10 ^ tape_decimals
power_below n h = pow-le-pow_right (omega arith) {i = n} {j = 3} h

pub product_below : (a n : ℕ) → a < decimal_bound → n ≤ tape_decimals → a * 10 ^ n < 10 ^ 13
product_below a n h k =
    let b : a ≤ 9999999999 = omega arith in
    let t : a * 10 ^ n ≤ 9999999999 * 1000 = mul-le-mul b (power_below n k) in
    omega (arith, t)

-- the decimals after a point
module _ (most : ℕ) (l : List ℕ) (point : ℕ) where
  pub after_none : length l ≤ point → DecimalsOf most l point (Some 0)
  unfolding value·of
  after_none h = (
    rw (le-ltb point (length l) h),
    rw (drop_of_length-le l {i = suc point} (omega arith)) (omega arith),
    omega arith,
  )

  module _ (h : point < length l) (m : most ≤ tape_decimals) (d : Option ℕ)
      (s : Spells (digits_up_to most (take (length l - (point + 1)) (drop (point + 1) l))) (take (length l - (point + 1)) (drop (point + 1) l)) d)
    where
      abbrev rest : List ℕ
      rest = drop (suc point) l

      rest_size : length rest ≡ length l - (point + 1)
      rest_size = length-drop (suc point) l ∙ ap (λ (k : ℕ). length l - k) {x = suc point} {y = point + 1} (omega arith)

      rest_whole : take (length l - (point + 1)) (drop (point + 1) l) ≡ rest
      rest_whole = rw (add-one point) (take_all (length l - suc point) rest (omega (arith, length-drop (suc point) l)))

      spells : Spells (digits_up_to most rest) rest d
      spells = subst (λ (k : List ℕ). Spells (digits_up_to most k) k d) rest_whole s

      module _ (n : ℕ) (t : d ≡ Some n) where
        passed : (digits_up_to most rest ≡ true) × (n ≡ value·of 0 rest)
        passed = there (digits_up_to most rest) (value·of 0 rest) d n spells t

        module _ (k : ℕ) (e : k ≡ most - (length l - (point + 1))) where
          pub after_below : n * 10 ^ k < 10 ^ 13
          after_below = product_below n k (digits_below most rest (omega arith) d spells n t) (omega arith)

          pub after_good : DecimalsOf most l point (Some (n * 10 ^ k))
          after_good = (
            rw (lt-ltb point (length l) h) passed.0,
            rw (passed.1, e, ← rest_size),
            after_below,
          )

-- the whole number
module _ (most : ℕ) (l : List ℕ) (point : ℕ) (e : point ≡ 0 + length (up_to (one_of (ascii ".")) (drop 0 l))) where
  pub point_within : point ≤ length l
  point_within = omega (arith, e, run_length (one_of (ascii ".")) l)

  point_is : point ≡ length (whole l)
  point_is = omega (arith, e)

  whole_is : take (point - 0) (drop 0 l) ≡ whole l
  whole_is =
      let n : point - 0 ≡ length (whole l) = omega (arith, e) in
      ap (λ (k : ℕ). take k l) n ∙ run_take (one_of (ascii ".")) l

  module _ (w : Option ℕ) (s : Spells (digits_up_to whole_digits (take (point - 0) (drop 0 l))) (take (point - 0) (drop 0 l)) w) where
    spells_whole : Spells (digits_up_to whole_digits (whole l)) (whole l) w
    spells_whole = subst (λ (k : List ℕ). Spells (digits_up_to whole_digits k) k w) whole_is s

    pub whole_product : (a : ℕ) → w ≡ Some a → most ≤ tape_decimals → a * 10 ^ most < 10 ^ 13
    whole_product a t k = product_below a most (digits_below 4 (whole l) (omega arith) w spells_whole a t) k

    pub decimal_unread : w ≡ None → Reads most l None
    unfolding is_decimal
    decimal_unread t = sym (rw (not_there (digits_up_to whole_digits (whole l)) (value·of 0 (whole l)) w spells_whole t))

    module _ (a : ℕ) (t : w ≡ Some a) (f : Option ℕ) (d : DecimalsOf most l point f) where
      passed_whole : (digits_up_to whole_digits (whole l) ≡ true) × (a ≡ value·of 0 (whole l))
      passed_whole = there (digits_up_to whole_digits (whole l)) (value·of 0 (whole l)) w a spells_whole t

      pub decimal_cut : f ≡ None → Reads most l None
      unfolding is_decimal
      decimal_cut u =
          let k : few_decimals most l (length (whole l)) ≡ false = rw point_is at (rw u at d) in
          sym (rw (passed_whole.0, k))

      module _ (b : ℕ) (u : f ≡ Some b) where
        pub fraction_below : b < decimal_bound * 10 ^ tape_decimals
        fraction_below = (rw u at d).2

        pub decimal_read : Reads most l (Some (a * 10 ^ most + b))
        unfolding is_decimal scaled
        decimal_read =
            let (k, v, _) = subst (λ (n : ℕ). DecimalsOf most l n (Some b)) point_is (rw u at d) in
            sym (rw (passed_whole.0, k, passed_whole.1, v))
