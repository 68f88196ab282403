-- A pair: refused as its draws are, or the samples of the two numbers drawn, over f and so for either width.
use mathlib.Core.Path.{◌≡◌, refl, ap, ◌∙◌}
use mathlib.Core.List.{List, [], ◌∷◌}
use Prim.Native.Nat.{ℕ}
use native.Mathlib.Omega.{arith}
use borrow.Author.Tests.{ne_eqb}
use lib.IntN.{ℤ, pos}
use Rattle.streams.specs.declared.Generator.{Generator}
use Rattle.streams.specs.declared.RecordAnswer.{RecordAnswer}
use Rattle.streams.specs.declared.Uniforms.{Uniforms}
use Rattle.streams.specs.Streams.{uniforms_of}
use Rattle.streams.specs.Recurrence.{InRange}
use Rattle.streams.proofs.Theorems.{numbers_bounded}
use Rattle.box_muller.specs.declared.Samples.{Samples}
use Rattle.box_muller.specs.Sample.{samples_of}
use Rattle.box_muller.proofs.Refusals.{refusals}
use Rattle.noise.specs.Noise.{pair_of, pair_returns, samples_in}

abbrev PairDone : (f : ℕ) → Generator → RecordAnswer → List ℤ → Type 0
PairDone f g r out = (r ≡ pair_returns f g) × (out ≡ samples_in (pair_of f g))

module _ (f : ℕ) (g : Generator) {drawn : Uniforms} (is : drawn ≡ uniforms_of g) where
  pub pair_refused : {out : List ℤ} → (drawn.code ≡ 0 → ⊥) → out ≡ pos 0 ∷ pos 0 ∷ [] → PairDone f g (record { code = drawn.code; next = drawn.next }) out
  unfolding pair_of
  pair_refused some cleared = rw (cleared, ← is, ne_eqb _ _ some) (refl, refl)

  -- the call from k and v accepts what is drawn
  pub pair_drawn : {code : ℕ} {out : List ℤ} → InRange g.a → InRange g.b → drawn.code ≡ 0 → code ≡ (samples_of f drawn.k drawn.v).code
      → out ≡ (samples_of f drawn.k drawn.v).first ∷ (samples_of f drawn.k drawn.v).second ∷ []
      → PairDone f g (record { code = code; next = drawn.next }) out
  unfolding pair_of
  pair_drawn {code} ra rb none code_is out-is =
      let (hk, hv) = rw (← is) at (numbers_bounded g ra rb) in
      let accepted : code ≡ 0 = code_is ∙ ap (λ (s : Samples). s.code) (refusals.none f drawn.k drawn.v hk (omega (arith, hv))) in
      rw (← is, none) (ap (λ (n : ℕ). record { code = n; next = drawn.next }) accepted, out-is)
