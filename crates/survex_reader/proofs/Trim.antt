-- Blanks at the end of a list.
use Prim.Native.Nat.{ℕ, zero, suc, ◌+◌, ◌≤◌, ◌<◌}
use native.Mathlib.Omega.{arith}
use mathlib.Core.Path.{◌≡◌, refl, ap}
use mathlib.Core.Bool.{Bool, true, false, cond, ◌&&◌, and-false}
use mathlib.Core.List.{List, [], ◌∷◌}
use lib.ListN.{length, get_or, take}
use Rattle.text.specs.Forms.{is_empty}
use Rattle.survex_reader.specs.Lines.{blank, trim_end}

-- all bytes are blanks
pub trim_all : (l : List ℕ) → ((k : ℕ) → k < length l → blank (get_or l k 0) ≡ true) → trim_end l ≡ []
unfolding trim_end is_empty
trim_all [] f = refl
trim_all (x ∷ l) f = rw (f 0 (omega arith), trim_all l (λ k h. f (suc k) (omega (arith, h))))

has_bytes : (l : List ℕ) (n : ℕ) → length l ≡ n + 1 → is_empty l ≡ false
unfolding is_empty
has_bytes [] n e = absurd (omega (arith, e))
has_bytes (x ∷ l) n e = refl

-- the last byte that is no blank
pub trimmed_at : (l : List ℕ) (i : ℕ) → i < length l → blank (get_or l i 0) ≡ false → ((k : ℕ) → i + 1 ≤ k → k < length l → blank (get_or l k 0) ≡ true)
    → length (trim_end l) ≡ i + 1
unfolding trim_end is_empty
trimmed_at [] i h b f = absurd (omega (arith, h))
trimmed_at (x ∷ l) zero h b f = rw (trim_all l (λ k h. f (suc k) (omega arith) (omega (arith, h))), b) refl
trimmed_at (x ∷ l) (suc i) h b f =
    let e : length (trim_end l) ≡ i + 1 = trimmed_at l i (omega (arith, h)) b (λ k g h. f (suc k) (omega (arith, g)) (omega (arith, h))) in
    rw (has_bytes (trim_end l) i e, and-false (blank x)) (omega (arith, e))

-- what is trimmed is the first part
pub trim_take : (l : List ℕ) → take (length (trim_end l)) l ≡ trim_end l
unfolding trim_end
trim_take [] = refl
trim_take (x ∷ l) = go (blank x && is_empty (trim_end l)) (trim_take l)
  where
    go : (b : Bool) → take (length (trim_end l)) l ≡ trim_end l
        → take (length (cond b [] (x ∷ trim_end l))) (x ∷ l) ≡ cond b [] (x ∷ trim_end l)
    go true ih = refl
    go false ih = ap (λ (w : List ℕ). x ∷ w) ih

pub trim_length : (l : List ℕ) → length (trim_end l) ≤ length l
unfolding trim_end
trim_length [] = omega arith
trim_length (x ∷ l) = go (blank x && is_empty (trim_end l)) (trim_length l)
  where
    go : (b : Bool) → length (trim_end l) ≤ length l → length (cond b [] (x ∷ trim_end l)) ≤ length (x ∷ l)
    go true ih = omega arith
    go false ih = omega arith
