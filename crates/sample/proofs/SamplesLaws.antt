-- Samples in the caller's memory, pair by pair.
use mathlib.Core.Path.{◌≡◌, refl, ap, ◌∙◌}
use mathlib.Core.List.{List, [], ◌∷◌, ◌++◌}
use Prim.Native.Nat.{ℕ, zero, suc, ◌+◌, ◌*◌, ◌≤◌, ◌<◌}
use native.Mathlib.Numerals.{add-one}
use native.Mathlib.Omega.{arith}
use lib.IntN.{ℤ}
use lib.ListN.{length, take, get_or, set, length-set}
use lib.Seq.{take_all}
use Rattle.sample.specs.Samples.{first_at, second_at, samples_at}

-- the samples of some z and of more
pub samples_append : (f : ℕ) (l m : List ℕ) → samples_at f (l ++ m) ≡ samples_at f l ++ samples_at f m
unfolding samples_at
samples_append f [] m = refl
samples_append f (z ∷ l) m = ap (λ (t : List ℤ). first_at f z ∷ second_at f z ∷ t) (samples_append f l m)

pub samples_length : (f : ℕ) (zs : List ℕ) → length (samples_at f zs) ≡ 2 * length zs
unfolding samples_at
samples_length f [] = refl
samples_length f (z ∷ zs) = let ih = samples_length f zs in omega arith

-- each z has its two samples, as far as there is room for both; every other element stays
unfoldable pub filled : ℕ → List ℕ → List ℤ → List ℤ
filled f [] out = out
filled f (z ∷ zs) [] = []
filled f (z ∷ zs) (x ∷ []) = x ∷ []
filled f (z ∷ zs) (x ∷ y ∷ out) = first_at f z ∷ second_at f z ∷ filled f zs out

-- where there is room for just the pairs, it holds their samples
filled_whole : (f : ℕ) (zs : List ℕ) (out : List ℤ) → length out ≡ 2 * length zs → filled f zs out ≡ samples_at f zs
unfolding filled samples_at
filled_whole f [] [] h = refl
filled_whole f [] (x ∷ out) h = absurd (omega arith)
filled_whole f (z ∷ zs) [] h = absurd (omega arith)
filled_whole f (z ∷ zs) (x ∷ []) h = absurd (omega arith)
filled_whole f (z ∷ zs) (x ∷ y ∷ out) h = ap (λ (l : List ℤ). first_at f z ∷ second_at f z ∷ l) (filled_whole f zs out (omega arith))

-- one pair more: two stores
filled_step : (f i : ℕ) (zs : List ℕ) (out : List ℤ) → i < length zs → 2 * i + 1 < length out →
    set (set (filled f (take i zs) out) (2 * i) (first_at f (get_or zs i 0))) (2 * i + 1) (second_at f (get_or zs i 0))
    ≡ filled f (take (suc i) zs) out
unfolding filled
filled_step f i [] out h g = absurd (omega arith)
filled_step f i (z ∷ zs) [] h g = absurd (omega arith)
filled_step f i (z ∷ zs) (x ∷ []) h g = absurd (omega arith)
filled_step f zero (z ∷ zs) (x ∷ y ∷ out) h g = refl
filled_step f (suc i) (z ∷ zs) (x ∷ y ∷ out) h g =
    let a : 2 * suc i ≡ suc (suc (2 * i)) = omega arith in
    let b : 2 * suc i + 1 ≡ suc (suc (2 * i + 1)) = omega arith in
    rw (b, a) (ap (λ (l : List ℤ). first_at f z ∷ second_at f z ∷ l) (filled_step f i zs out (omega arith) (omega arith)))

-- ---- The last pass: the first i of the z have their samples
pub record Sampled (f : ℕ) (z : List ℕ) (out₀ out : List ℤ) (i : ℕ) : Type 0 where
  pub within : i ≤ length z
  pub kept : length out ≡ length out₀
  pub done : out ≡ filled f (take i z) out₀

module _ {f : ℕ} {z : List ℕ} {out₀ : List ℤ} where
  pub none_sampled : Sampled f z out₀ out₀ 0
  unfolding filled
  none_sampled = record { within = omega arith; kept = refl; done = refl }

  pub one_sampled : {out : List ℤ} {i : ℕ} {a b : ℤ} → Sampled f z out₀ out i → length out₀ ≡ 2 * length z → i < length z →
      a ≡ first_at f (get_or z i 0) → b ≡ second_at f (get_or z i 0) → Sampled f z out₀ (set (set out (2 * i) a) (2 * i + 1) b) (i + 1)
  one_sampled {out} {i} {a} {b} s size h first second = record {
    within = omega arith;
    kept = simp length-set s.kept;
    done = rw (s.done, first, second, add-one i) (filled_step f i z out₀ h (omega arith));
  }

  pub all_sampled : {out : List ℤ} {i : ℕ} → Sampled f z out₀ out i → length out₀ ≡ 2 * length z → length z ≤ i → out ≡ samples_at f z
  all_sampled {i = i} s size over =
      s.done ∙ ap (λ (l : List ℕ). filled f l out₀) (take_all i z over) ∙ filled_whole f z out₀ size
