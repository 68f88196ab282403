-- Bit matrices of 32 by 32 bits (document 02, Job 2): 32 columns, each a word of 32 bits, and what a matrix gives at a word.
use Rattle.std.specs.Prelude.{◌≡◌, List, [], ◌∷◌, map, ℕ, zero, suc, ◌*◌, ◌/◌, ◌%◌}
use Rattle.std.specs.Int.Bits.{bit_xor}

-- f, n times.
unfoldable pub repeat : {A : Type 0} → (A → A) → ℕ → A → A
repeat f zero x = x
repeat f (suc n) x = repeat f n (f x)

-- A matrix at a word: the exclusive-or of the columns at the digits of x that are 1, the first column at the lowest digit.
unfoldable pub applied : List ℕ → ℕ → ℕ
applied [] x = 0
applied (column ∷ columns) x = bit_xor (column * (x % 2)) (applied columns (x / 2))

-- The unit words 1, 2, 4, .., of one digit 1 each: the columns of the matrix that gives every word of n digits back.
unfoldable pub units : ℕ → List ℕ
units zero = []
units (suc n) = 1 ∷ map (λ word. word * 2) (units n)

-- ---- For theorems and private functions; no public contract cites these

-- f is "linear over exclusive-or".
abbrev pub Additive : (ℕ → ℕ) → Type 0
Additive f = (x y : ℕ) → f (bit_xor x y) ≡ bit_xor (f x) (f y)

-- The matrix of a map on words of 32 digits: its columns are the map at the unit words.
unfoldable pub matrix_of : (ℕ → ℕ) → List ℕ
matrix_of f = map f (units 32)
