-- An additive map is its matrix, a product of matrices is one after the other, and n applications are those of the n-th power,
-- by squaring.
use mathlib.Core.Path.{◌≡◌, refl, sym, ap, ap₂, ◌∙◌}
use mathlib.Core.List.{List, [], ◌∷◌, map}
use Prim.Native.Nat.{ℕ, zero, suc, ◌+◌, ◌*◌, ◌/◌, ◌%◌, ◌^◌, ◌<◌}
use native.Mathlib.Nat.{mul-zero, mul-one, one-mul, pow-suc, div-add-mod', zero-add, suc-add}
use native.Mathlib.Omega.{arith}
use lib.Bits.{bit_xor, xor_shifted, xor_zero_r, xor_comm, xor_self}
use Rattle.bit_matrix.specs.Matrices.{repeat, Additive, applied, units, matrix_of}
use Rattle.bit_matrix.proofs.Additive.{xor_half, xor_low, xor_swap, keeps_zero, shl_additive}

-- ---- Repeated maps

-- m times and then n times.
pub repeat_add : {A : Type 0} (f : A → A) (m n : ℕ) (x : A) → repeat f n (repeat f m x) ≡ repeat f (m + n) x
unfolding repeat
repeat_add f zero n x = rw (zero-add n)
repeat_add f (suc m) n x = repeat_add f m n (f x) ∙ rw (suc-add m n)

-- n times two times.
pub repeat_twice : {A : Type 0} (f : A → A) (n : ℕ) (x : A) → repeat (λ y. f (f y)) n x ≡ repeat f (n * 2) x
unfolding repeat
repeat_twice f zero x = refl
repeat_twice f (suc n) x = let e : suc n * 2 ≡ suc (suc (n * 2)) = omega arith in rw e (repeat_twice f n (f (f x)))

-- Two maps that agree on the values that the second passes through.
pub repeat_same : {A : Type 0} (f g : A → A) (P : A → Type 0) → ((x : A) → P x → f x ≡ g x) → ((x : A) → P x → P (g x))
    → (n : ℕ) (x : A) → P x → repeat f n x ≡ repeat g n x
unfolding repeat
repeat_same f g P same kept zero x h = refl
repeat_same f g P same kept (suc n) x h = ap (repeat f n) (same x h) ∙ repeat_same f g P same kept n (g x) (kept x h)

-- ---- Matrices

-- a column at the sum of two digits
column_digits : (c a b : ℕ) → a < 2 → b < 2 → c * ((a + b) % 2) ≡ bit_xor (c * a) (c * b)
column_digits c zero zero ha hb = simp mul-zero
column_digits c zero (suc zero) ha hb = simp mul-zero
column_digits c zero (suc (suc b)) ha hb = omega arith
column_digits c (suc zero) zero ha hb = simp (mul-zero, xor_zero_r)
column_digits c (suc zero) (suc zero) ha hb = simp (mul-zero, xor_self)
column_digits c (suc zero) (suc (suc b)) ha hb = omega arith
column_digits c (suc (suc a)) b ha hb = omega arith

-- A matrix is additive.
pub applied_additive : (columns : List ℕ) → Additive (applied columns)
unfolding applied
applied_additive [] x y = refl
applied_additive (c ∷ columns) x y =
    rw (xor_low x y, xor_half x y, column_digits c (x % 2) (y % 2) (omega arith) (omega arith), applied_additive columns (x / 2) (y / 2))
    (xor_swap (c * (x % 2)) (c * (y % 2)) (applied columns (x / 2)) (applied columns (y / 2)))

-- an additive map at a column, or at none
at_digit : (f : ℕ → ℕ) → Additive f → (c a : ℕ) → a < 2 → f c * a ≡ f (c * a)
at_digit f additive c zero h = simp mul-zero (sym (keeps_zero f additive))
at_digit f additive c (suc zero) h = simp mul-one
at_digit f additive c (suc (suc a)) h = omega arith

-- The map at each column is the matrix and then the map. So `map (applied a) b` is the product of two matrices: b, then a.
pub applied_map : (f : ℕ → ℕ) → Additive f → (columns : List ℕ) (x : ℕ) → applied (map f columns) x ≡ f (applied columns x)
unfolding applied
applied_map f additive [] x = sym (keeps_zero f additive)
applied_map f additive (c ∷ columns) x =
    ap₂ (λ (u v : ℕ). bit_xor u v) (at_digit f additive c (x % 2) (omega arith)) (applied_map f additive columns (x / 2))
    ∙ sym (additive (c * (x % 2)) (applied columns (x / 2)))

-- The unit words are the identity.
pub applied_units : (n x : ℕ) → x < 2 ^ n → applied (units n) x ≡ x
unfolding applied units
applied_units zero x h = omega arith
applied_units (suc n) x h =
    let below : x / 2 < 2 ^ n = let p : x < 2 ^ n * 2 = rw pow-suc at h in omega arith in
    rw (one-mul, applied_map (λ u. u * 2) (shl_additive 1) (units n) (x / 2), applied_units n (x / 2) below)
    (xor_comm (x % 2) (x / 2 * 2) ∙ xor_shifted (x / 2) 1 (x % 2) (omega arith) ∙ div-add-mod' x 2)

-- An additive map is its matrix, below 2 ^ 32,
pub matrix_is : (f : ℕ → ℕ) → Additive f → (x : ℕ) → x < 2 ^ 32 → applied (matrix_of f) x ≡ f x
unfolding matrix_of
matrix_is f additive x h = applied_map f additive (units 32) x ∙ ap f (applied_units 32 x h)

-- and n times too.
pub matrix_repeat : (f : ℕ → ℕ) → Additive f → ((x : ℕ) → x < 2 ^ 32 → f x < 2 ^ 32) → (n x : ℕ) → x < 2 ^ 32
    → repeat (applied (matrix_of f)) n x ≡ repeat f n x
matrix_repeat f additive kept = repeat_same (applied (matrix_of f)) f (λ x. x < 2 ^ 32) (matrix_is f additive) kept

-- ---- Powers by squaring

-- The matrix's square, half as often.
pub squared_repeat : (columns : List ℕ) (n x : ℕ) → repeat (applied (map (applied columns) columns)) n x ≡ repeat (applied columns) (n * 2) x
squared_repeat columns n x =
    let f : ℕ → ℕ = applied columns in
    repeat_same (applied (map f columns)) (λ y. f (f y)) (λ y. Unit) (λ y all. applied_map f (applied_additive columns) columns y)
    (λ y all. tt) n x tt
    ∙ repeat_twice f n x
