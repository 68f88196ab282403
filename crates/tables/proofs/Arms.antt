-- A number that is none of the keys is beyond them, and the parts of a number of `beside` are the entries of the two lists.
use mathlib.Core.Path.{◌≡◌, refl, ap, ◌∙◌}
use mathlib.Core.List.{List, [], ◌∷◌}
use Prim.Native.Nat.{ℕ, zero, suc, ◌+◌, ◌*◌, ◌/◌, ◌%◌, ◌^◌, ◌≤◌, ◌<◌}
use native.Mathlib.Omega.{arith}
use lib.Pow.{high, low}
use lib.ListN.{length, get_or}
use Rattle.tables.specs.Private.{NoKey, beside}

pub no_key_le : (n x : ℕ) → NoKey n x → n ≤ x
no_key_le zero x none = omega arith
no_key_le (suc n) x (none, other) = omega (arith, no_key_le n x none, other)

beside_at : (width : ℕ) (uppers lowers : List ℕ) (n : ℕ) → length uppers ≡ length lowers →
    get_or (beside width uppers lowers) n 0 ≡ get_or uppers n 0 * 2 ^ width + get_or lowers n 0
beside_at width [] [] n h = omega arith
beside_at width [] (y ∷ lowers) n h = omega arith
beside_at width (x ∷ uppers) [] n h = omega arith
beside_at width (x ∷ uppers) (y ∷ lowers) zero h = refl
beside_at width (x ∷ uppers) (y ∷ lowers) (suc n) h = beside_at width uppers lowers n (omega arith)

pub parts :
    (width : ℕ) (uppers lowers : List ℕ) → length uppers ≡ length lowers → (n r : ℕ) → get_or lowers n 0 < 2 ^ width →
    r ≡ get_or (beside width uppers lowers) n 0 → (r / 2 ^ width ≡ get_or uppers n 0) × (r % 2 ^ width ≡ get_or lowers n 0)
parts width uppers lowers same n r small e = (
  ap (λ x. x / 2 ^ width) (e ∙ beside_at width uppers lowers n same) ∙ high (get_or uppers n 0) width small,
  ap (λ x. x % 2 ^ width) (e ∙ beside_at width uppers lowers n same) ∙ low (get_or uppers n 0) width small,
)
