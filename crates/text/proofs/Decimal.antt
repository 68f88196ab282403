-- Decimal numbers: which digits are printed, and that printing and reading undo each other.
use Prim.Native.Nat.{ℕ, zero, suc, ◌+◌, ◌-◌, ◌*◌, ◌/◌, ◌%◌, ◌^◌, ◌≤◌, ◌<◌}
use native.Mathlib.Omega.{arith}
use native.Mathlib.Nat.{pow-suc, mul-le-mul_right, pow-le-pow_right, pow-succ'}
use native.Mathlib.Decide.{dec_lt}
use mathlib.Core.Path.{◌≡◌, refl, sym, ap, ◌∙◌}
use mathlib.Core.Bool.{Bool, true, false, not, ◌&&◌, ◌||◌, and-eq-true_iff, or-true, false≢true}
use mathlib.Core.List.{List, [], ◌∷◌, ◌++◌, append_assoc, append-nil}
use lib.Dec.{leb, ltb, eqb}
use lib.ListN.{length, get_or, length-append, get_or-append}
use borrow.Author.Tests.{lt-ltb, le-ltb, le-leb, leb-true, ltb-true, ne_eqb}
use Rattle.text.specs.Fields.{all, digit, digit_string, value, decimal_by, decimal}
use Rattle.text.proofs.Tests.{test, ◌and◌, each}

-- a number below 10 is one digit, whatever the fuel
by_one : (fuel n : ℕ) → n < 10 → decimal_by fuel n ≡ (48 + n) ∷ []
unfolding decimal_by
by_one zero n h = refl
by_one (suc f) n h = rw (lt-ltb n 10 h, decimal_by)

by_more : (fuel n : ℕ) → 10 ≤ n → decimal_by (suc fuel) n ≡ decimal_by fuel (n / 10) ++ ((48 + n % 10) ∷ [])
unfolding decimal_by
by_more f n h = rw (le-ltb n 10 h, decimal_by)

-- more fuel than the number needs changes nothing
by_fuel : (f g n : ℕ) → n ≤ f → n ≤ g → decimal_by f n ≡ decimal_by g n
by_fuel zero g n h k = by_one zero n (omega arith) ∙ sym (by_one g n (omega arith))
by_fuel (suc f) zero n h k = by_one (suc f) n (omega arith) ∙ sym (by_one zero n (omega arith))
by_fuel (suc f) (suc g) n h k = split (λ a b. by_fuel f g (n / 10) a b) (dec_lt n 10)
  where
    split : (n / 10 ≤ f → n / 10 ≤ g → decimal_by f (n / 10) ≡ decimal_by g (n / 10)) → Dec (n < 10) → decimal_by (suc f) n ≡
        decimal_by (suc g) n
    split ih (yes p) = by_one (suc f) n p ∙ sym (by_one (suc g) n p)
    split ih (no p) =
        let e : 10 ≤ n = omega (arith, p) in
        by_more f n e ∙ ap (λ (l : List ℕ). l ++ ((48 + n % 10) ∷ [])) (ih (omega arith) (omega arith)) ∙ sym (by_more g n e)

-- Document 01: "printed numbers are decimal without leading zeros".
pub decimal_one : (n : ℕ) → n < 10 → decimal n ≡ (48 + n) ∷ []
unfolding decimal
decimal_one n h = by_one n n h

pub decimal_more : (n : ℕ) → 10 ≤ n → decimal n ≡ decimal (n / 10) ++ ((48 + n % 10) ∷ [])
unfolding decimal
decimal_more zero h = absurd (omega arith)
decimal_more (suc n) h = by_more n (suc n) h ∙ ap (λ (l : List ℕ). l ++ ((48 + suc n % 10) ∷ []))
    (by_fuel n (suc n / 10) (suc n / 10) (omega arith) (omega arith))

-- what holds of a single digit, and of a number whose tenth it holds of, holds of every number
pub by_digits : (P : ℕ → Type 0) → ((n : ℕ) → n < 10 → P n) → ((n : ℕ) → 10 ≤ n → P (n / 10) → P n) → (n : ℕ) → P n
by_digits P one more n = within n n (omega arith)
  where
    step : (n : ℕ) → (10 ≤ n → P (n / 10)) → Dec (n < 10) → P n
    step n ih (yes p) = one n p
    step n ih (no p) = more n (omega (arith, p)) (ih (omega (arith, p)))

    within : (f n : ℕ) → n ≤ f → P n
    within zero n h = one n (omega arith)
    within (suc f) n h = step n (λ t. within f (n / 10) (omega arith)) (dec_lt n 10)

-- as many digits as the power of ten that it stays below
pub decimal_length : (k n : ℕ) → n < 10 ^ suc k → length (decimal n) ≤ suc k
decimal_length zero n h = rw (decimal_one n (omega arith)) (omega arith)
decimal_length (suc k) n h = split (λ a. decimal_length k (n / 10) a) (dec_lt n 10)
  where
    split : (n / 10 < 10 ^ suc k → length (decimal (n / 10)) ≤ suc k) → Dec (n < 10) → length (decimal n) ≤ suc (suc k)
    split ih (yes p) = rw (decimal_one n p) (omega arith)
    split ih (no p) =
        let d : n / 10 < 10 ^ suc k = omega (arith, pow-suc 10 (suc k)) in
        rw (decimal_more n (omega (arith, p)), length-append) (omega (arith, ih d))

pub decimal_some : (n : ℕ) → 0 < length (decimal n)
decimal_some =
    by_digits (λ n. 0 < length (decimal n))
    (λ n h. rw (decimal_one n h) (omega arith))
    (λ n h ih. rw (decimal_more n h, length-append) (omega arith))

pub all_append : (p : ℕ → Bool) (xs ys : List ℕ) → all p (xs ++ ys) ≡ all p xs && all p ys
unfolding all
all_append p [] ys = refl
all_append p (x ∷ xs) ys = head (p x) (all_append p xs ys)
  where
    head : (b : Bool) → all p (xs ++ ys) ≡ all p xs && all p ys → b && all p (xs ++ ys) ≡ b && all p xs && all p ys
    head true e = e
    head false e = refl

digit_of : (n : ℕ) → n < 10 → digit (48 + n) ≡ true
unfolding digit
digit_of n h = rw (le-leb 48 (48 + n) (omega arith), le-leb (48 + n) 57 (omega arith))

one_digit : (n : ℕ) → n < 10 → all digit ((48 + n) ∷ []) ≡ true
unfolding all
one_digit n h = rw (digit_of n h)

pub decimal_digits : (n : ℕ) → all digit (decimal n) ≡ true
decimal_digits =
    by_digits (λ n. all digit (decimal n) ≡ true)
    (λ n h. rw (decimal_one n h) (one_digit n h))
    (λ n h ih. rw (decimal_more n h, all_append, ih) (one_digit (n % 10) (omega arith)))

-- no leading zero
pub decimal_head : (n : ℕ) → 0 < n → 48 < get_or (decimal n) 0 0
decimal_head =
    by_digits (λ n. 0 < n → 48 < get_or (decimal n) 0 0)
    (λ n h k. rw (decimal_one n h) (omega arith))
    (λ n h ih k. rw (decimal_more n h, get_or-append (decimal (n / 10)) ((48 + n % 10) ∷ []) 0 0 (decimal_some (n / 10)))
    (ih (omega arith)))

pub value_append : (n : ℕ) (xs ys : List ℕ) → value n (xs ++ ys) ≡ value (value n xs) ys
unfolding value
value_append n [] ys = refl
value_append n (x ∷ xs) ys = value_append (n * 10 + (x - 48)) xs ys

value_one : (n d : ℕ) → value n ((48 + d) ∷ []) ≡ n * 10 + d
unfolding value
value_one n d = omega arith

-- What is printed is read as itself.
pub value_decimal : (n : ℕ) → value 0 (decimal n) ≡ n
value_decimal =
    by_digits (λ n. value 0 (decimal n) ≡ n)
    (λ n h. rw (decimal_one n h, value_one 0 n) (omega arith))
    (λ n h ih. rw (decimal_more n h, value_append, ih, value_one (n / 10) (n % 10)) (omega arith))

both : {a b : Bool} → a ≡ true → b ≡ true → a && b ≡ true
both {a} {b} p q = rw (p, q)

-- what a digit string is, part by part
pub record DigitStringParts (l : List ℕ) : Type 0 where
  pub one : 0 < length l
  pub ten : length l ≤ 10
  pub digits : all digit l ≡ true
  pub lead : eqb (length l) 1 || not (eqb (get_or l 0 0) 48) ≡ true

pub digit_string_is : (l : List ℕ) → digit_string l ≡ true → DigitStringParts l
unfolding digit_string
digit_string_is l h =
    let (((some, few), digits), lead) = each (test (ltb 0 (length l)) and test (leb (length l) 10) and test (all digit l) and
    test (eqb (length l) 1 || not (eqb (get_or l 0 0) 48))) h in
    record { one = ltb-true _ _ some; ten = leb-true _ _ few; digits = digits; lead = lead }

pub digit_string_decimal : (n : ℕ) → n < 10 ^ 10 → digit_string (decimal n) ≡ true
unfolding digit_string
digit_string_decimal n h =
    both (both (both (lt-ltb 0 _ (decimal_some n)) (le-leb _ 10 (decimal_length 9 n h))) (decimal_digits n)) (lead (dec_lt 0 n))
  where
    lead : Dec (0 < n) → eqb (length (decimal n)) 1 || not (eqb (get_or (decimal n) 0 0) 48) ≡ true
    lead (yes p) = rw (ne_eqb (get_or (decimal n) 0 0) 48 (λ e. omega (arith, decimal_head n p, e)))
        (or-true (eqb (length (decimal n)) 1))
    lead (no p) = rw (decimal_one n (omega (arith, p)))

-- the digits of a number, one more digit
decimal_snoc : (n d : ℕ) → 0 < n → 48 ≤ d → d ≤ 57 → decimal (n * 10 + (d - 48)) ≡ decimal n ++ (d ∷ [])
decimal_snoc n d h a b =
    let q : (n * 10 + (d - 48)) / 10 ≡ n = omega arith in
    let r : 48 + (n * 10 + (d - 48)) % 10 ≡ d = omega arith in
    rw (decimal_more (n * 10 + (d - 48)) (omega arith), q, r)

pub digit_range : (b : ℕ) → digit b ≡ true → (48 ≤ b) × (b ≤ 57)
unfolding digit
digit_range b h = let t = (and-eq-true_iff (leb 48 b) (leb b 57)).0 h in (leb-true 48 b t.0, leb-true b 57 t.1)

decimal_value_after : (n : ℕ) (xs : List ℕ) → 0 < n → all digit xs ≡ true → decimal (value n xs) ≡ decimal n ++ xs
unfolding value all
decimal_value_after n [] h t = sym (append-nil (decimal n))
decimal_value_after n (x ∷ xs) h t =
    let u = (and-eq-true_iff (digit x) (all digit xs)).0 t in
    let r = digit_range x u.0 in
    decimal_value_after (n * 10 + (x - 48)) xs (omega arith) u.1
    ∙ ap (λ (l : List ℕ). l ++ xs) (decimal_snoc n x h r.0 r.1)
    ∙ append_assoc (decimal n) (x ∷ []) xs

one_digit_value : (x : ℕ) → 48 ≤ x → x ≤ 57 → decimal (0 * 10 + (x - 48)) ≡ x ∷ []
one_digit_value x a b = rw (decimal_one (0 * 10 + (x - 48)) (omega arith)) (ap (λ (d : ℕ). d ∷ []) (omega arith))

zero_alone : (n : ℕ) → eqb (suc (suc n)) 1 || not (eqb 48 48) ≡ true → ⊥
zero_alone n z = false≢true (rw (ne_eqb (suc (suc n)) 1 (λ e. omega (arith, e))) at z)

-- What is read is what would be printed.
pub decimal_value : (l : List ℕ) → digit_string l ≡ true → decimal (value 0 l) ≡ l
unfolding all value
decimal_value [] h = let n = digit_string_is [] h in absurd (omega (arith, n.one))
decimal_value (x ∷ xs) h =
    let n = digit_string_is (x ∷ xs) h in
    let v = (and-eq-true_iff (digit x) (all digit xs)).0 n.digits in
    let r = digit_range x v.0 in
    first xs v.1 n.lead r.0 r.1 (dec_lt 48 x)
  where
    first : (ys : List ℕ) → all digit ys ≡ true → eqb (length (x ∷ ys)) 1 || not (eqb x 48) ≡ true → 48 ≤ x → x ≤ 57 → Dec
        (48 < x) → decimal (value 0 (x ∷ ys)) ≡ x ∷ ys
    first ys a z l m (yes p) =
        decimal_value_after (0 * 10 + (x - 48)) ys (omega arith) a ∙ ap (λ (l : List ℕ). l ++ ys) (one_digit_value x l m)
    first [] a z l m (no p) = one_digit_value x l m
    first (y ∷ ys) a z l m (no p) =
        let e : x ≡ 48 = omega (arith, p) in absurd (zero_alone (length ys) (rw e at z))

pub value_below : (n : ℕ) (xs : List ℕ) → all digit xs ≡ true → value n xs < (n + 1) * 10 ^ length xs
unfolding value all
value_below n [] h = omega arith
value_below n (x ∷ xs) h =
    let t = (and-eq-true_iff (digit x) (all digit xs)).0 h in
    let r = digit_range x t.0 in
    let ih = value_below (n * 10 + (x - 48)) xs t.1 in
    let m : (n * 10 + (x - 48) + 1) * 10 ^ length xs ≤ (n * 10 + 10) * 10 ^ length xs = mul-le-mul_right (10 ^ length xs)
    (omega arith) in
    rw (pow-succ' 10 (length xs)) (omega arith)

pub digit_string_below : (l : List ℕ) → digit_string l ≡ true → value 0 l < 10 ^ 10
digit_string_below l h =
    let n = digit_string_is l h in
    let b = value_below 0 l n.digits in
    let p : 10 ^ length l ≤ 10 ^ 10 = pow-le-pow_right (omega arith) n.ten in
    omega arith
