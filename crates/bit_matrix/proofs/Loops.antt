-- One turn of each loop, and its end.
use mathlib.Core.Path.{◌≡◌, refl, ap, ap₂, ◌∙◌}
use mathlib.Core.List.{List, [], ◌∷◌, ◌++◌, map, append-nil}
use Prim.Native.Nat.{ℕ, zero, suc, ◌+◌, ◌*◌, ◌/◌, ◌%◌, ◌≤◌, ◌<◌}
use native.Mathlib.Nat.{not-suc-le-zero}
use native.Mathlib.Numerals.{add-one}
use native.Mathlib.Omega.{arith}
use lib.ListN.{length, take, drop, get_or, set, drop_of_length-le}
use lib.Seq.{drop-cons, take_all, take-suc-set, append_snoc}
use lib.Bits.{bit_xor, xor_zero_r}
use Rattle.bit_matrix.specs.Matrices.{repeat, applied}
use Rattle.bit_matrix.proofs.Additive.{xor_assoc}
use Rattle.bit_matrix.proofs.Theorems.{repeat_add, squared_repeat}

-- ---- A list mapped into another: the elements before j are done

pub map_turn : (f : ℕ → ℕ) (l out : List ℕ) (j v : ℕ) → j < length l → j < length out → v ≡ f (get_or l j 0)
    → take (j + 1) (set out j v) ++ map f (drop (j + 1) l) ≡ take j out ++ map f (drop j l)
map_turn f l out j v within h e =
    rw (add-one, take-suc-set out j v h, drop-cons l j 0 within, e)
    (append_snoc (take j out) (f (get_or l j 0)) (map f (drop (suc j) l)))

pub map_end : (f : ℕ → ℕ) (l out : List ℕ) (j : ℕ) → length l ≤ j → length out ≤ j → take j out ++ map f (drop j l) ≡ out
map_end f l out j all h = rw (drop_of_length-le l all, take_all j out h) (append-nil out)

-- ---- `apply`: the sum so far, and the columns left at the digits left

pub apply_turn : (columns : List ℕ) (j sum rest : ℕ) → j < length columns
    → bit_xor (bit_xor sum (get_or columns j 0 * (rest % 2))) (applied (drop (j + 1) columns) (rest / 2))
    ≡ bit_xor sum (applied (drop j columns) rest)
unfolding applied
apply_turn columns j sum rest h =
    xor_assoc sum (get_or columns j 0 * (rest % 2)) (applied (drop (j + 1) columns) (rest / 2))
    ∙ rw (drop-cons columns j 0 h, add-one)

pub apply_end : (columns : List ℕ) (j sum rest : ℕ) → length columns ≤ j → bit_xor sum (applied (drop j columns) rest) ≡ sum
unfolding applied
apply_end columns j sum rest h = rw (drop_of_length-le columns h) (xor_zero_r sum)

-- ---- `powers`: the applications left

module _ (f : ℕ → ℕ) (n : ℕ) where
  pub once_odd : (words : List ℕ) → n % 2 ≡ 1 → map f words ≡ map (repeat f (n % 2)) words
  unfolding repeat
  once_odd [] h = refl
  once_odd (x ∷ words) h = ap₂ (λ (y : ℕ) (ys : List ℕ). y ∷ ys) (rw h) (once_odd words h)

  pub once_even : (words : List ℕ) → n % 2 ≡ 0 → words ≡ map (repeat f (n % 2)) words
  unfolding repeat
  once_even [] h = refl
  once_even (x ∷ words) h = ap₂ (λ (y : ℕ) (ys : List ℕ). y ∷ ys) (rw h) (once_even words h)

-- the rest of n after its last digit, of the matrix's square
power_turn : (p p' : List ℕ) (n x : ℕ) → p' ≡ map (applied p) p
    → repeat (applied p') (n / 2) (repeat (applied p) (n % 2) x) ≡ repeat (applied p) n x
power_turn p p' n x squared =
    let e : n % 2 + n / 2 * 2 ≡ n = omega arith in
    rw squared (squared_repeat p (n / 2) (repeat (applied p) (n % 2) x) ∙ repeat_add (applied p) (n % 2) (n / 2 * 2) x ∙ rw e)

each_turn : (p p' : List ℕ) (n : ℕ) (words : List ℕ) → p' ≡ map (applied p) p
    → map (repeat (applied p') (n / 2)) (map (repeat (applied p) (n % 2)) words) ≡ map (repeat (applied p) n) words
each_turn p p' n [] squared = refl
each_turn p p' n (x ∷ words) squared = ap₂ (λ (y : ℕ) (ys : List ℕ). y ∷ ys) (power_turn p p' n x squared) (each_turn p p' n words squared)

-- one application where the count is odd, and then the matrix's square half as often
pub powers_turn : (p p' : List ℕ) (n : ℕ) (words words' : List ℕ) → p' ≡ map (applied p) p → words' ≡ map (repeat (applied p) (n % 2)) words
    → map (repeat (applied p') (n / 2)) words' ≡ map (repeat (applied p) n) words
powers_turn p p' n words words' squared once = ap (map (repeat (applied p') (n / 2))) once ∙ each_turn p p' n words squared

pub powers_end : (f : ℕ → ℕ) (n : ℕ) (words : List ℕ) → n ≤ 0 → map (repeat f n) words ≡ words
unfolding repeat
powers_end f zero [] h = refl
powers_end f zero (x ∷ words) h = ap (λ (ys : List ℕ). x ∷ ys) (powers_end f zero words h)
powers_end f (suc n) words h = absurd (not-suc-le-zero h)
