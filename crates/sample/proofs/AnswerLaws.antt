-- The answer for k and v in the caller's memory: the two refusals, and the samples of z = 65536 k + v.
use mathlib.Core.Path.{◌≡◌, refl, ap₂, ◌∙◌}
use mathlib.Core.List.{List, [], ◌∷◌}
use Prim.Native.Nat.{ℕ, ◌+◌, ◌*◌, ◌/◌, ◌%◌, ◌^◌, ◌≤◌, ◌<◌}
use native.Mathlib.Omega.{arith}
use borrow.Author.Tests.{le-leb, lt-leb, lt-ltb, le-ltb}
use lib.IntN.{ℤ, pos}
use lib.ListN.{get_or}
use Rattle.exact.specs.Fraction.{Fraction}
use Rattle.exact.specs.Pair.{Close}
use Rattle.radius.specs.Steps.{number_bits, inverse}
use Rattle.box_muller.specs.Sample.{first_of, second_of, samples_of}
use Rattle.sample.specs.Samples.{samples_at, Within}

-- code and memory are those of the answer
abbrev pub Answered : (f k v code : ℕ) → List ℤ → Type 0
Answered f k v code out = (code ≡ (samples_of f k v).code) × (out ≡ (samples_of f k v).first ∷ (samples_of f k v).second ∷ [])

-- and so close
abbrev pub Near : (limit : Fraction) (f k v : ℕ) → List ℤ → Type 0
Near limit f k v out = k < 2 ^ number_bits → v < 65536 → Close limit f (inverse k) v (get_or out 0 (pos 0)) (get_or out 1 (pos 0))

pub answer_near : {limit : Fraction} {f k v code : ℕ} {out : List ℤ} → Within limit f → Answered f k v code out → Near limit f k v out
unfolding samples_of
answer_near {limit} {f} {k} {v} within answered hk hv =
    rw (answered.1, lt-leb (2 ^ number_bits) k hk, le-ltb 65535 v (omega (arith, hv))) (within k v hk hv)

pub refused_two : (f k v : ℕ) {out : List ℤ} → out ≡ pos 0 ∷ pos 0 ∷ [] → 2 ^ number_bits ≤ k → Answered f k v 2 out
unfolding samples_of
refused_two f k v none large = rw (none, le-leb (2 ^ number_bits) k large) (refl, refl)

pub refused_three : (f k v : ℕ) {out : List ℤ} → out ≡ pos 0 ∷ pos 0 ∷ [] → k < 2 ^ number_bits → 65535 < v → Answered f k v 3 out
unfolding samples_of
refused_three f k v none small large = rw (none, lt-leb (2 ^ number_bits) k small, lt-ltb 65535 v large) (refl, refl)

pub accepted : (f k v : ℕ) {out : List ℤ} → k < 2 ^ number_bits → v ≤ 65535 → out ≡ samples_at f ((k * 65536 + v) ∷ []) → Answered f k v 0 out
unfolding samples_of samples_at
accepted f k v small few e =
    let high : (k * 65536 + v) / 65536 ≡ k = omega arith in
    let low : (k * 65536 + v) % 65536 ≡ v = omega arith in
    rw (lt-leb (2 ^ number_bits) k small, le-ltb 65535 v few)
    (refl, e ∙ ap₂ (λ (a b : ℤ). a ∷ b ∷ []) (ap₂ (first_of f) high low) (ap₂ (second_of f) high low))
