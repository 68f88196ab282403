-- A play's sums, shot by shot.
use Prim.Native.Nat.{ℕ, suc, ◌+◌, ◌*◌, ◌^◌, ◌≤◌, ◌<◌}
use native.Mathlib.Nat.{mul-le-mul}
use native.Mathlib.Omega.{arith}
use mathlib.Core.Path.{◌≡◌, refl, sym, ap, ap₂, ◌∙◌}
use mathlib.Core.List.{List, ◌∷◌}
use lib.IntN.{ℤ, pos, nat_abs, ◌+ℤ◌, ◌*ℤ◌, +ℤ_idr, +ℤ_assoc}
use lib.ListN.{length, get_or, drop, drop_of_length-le}
use lib.Seq.{drop-cons}
use mir.Syntax.{w16, w32}
use mir.Val.{Fits, to_z, of_z}
use Rattle.signs.proofs.Sizes.{sum_size, product_size, size_reads}
use Rattle.noisy_shot.specs.Rounding.{noisy_distance, noisy_bearing}
use Rattle.job_reader.specs.Limits as limits
use Rattle.job_reader.specs.declared.loops.LoopShot.{LoopShot}
use Rattle.angle.specs.Steps.{signed_of}
use Rattle.angle.proofs.Ranges.{signed_range}
use Rattle.sums.specs.Sums.{sine, cosine, product, total, most_distance}
use Rattle.read_back.proofs.ReadBack.{sized_most, bearing_most}
use Rattle.play.specs.Near.{Near}
use Rattle.play.specs.Private.{largest_sample, most, noisy_of, noisy_shots, SmallSamples}

-- a sample as the machine reads it back
pub reads16 : (z : ℤ) → nat_abs z ≤ largest_sample → to_z w16 (of_z w16 z) ≡ z
reads16 z h = size_reads w16 z (omega (arith, h))

-- a bearing fits 32 bits
pub bearing_fits : (σ b : ℕ) (z : ℤ) (step : ℕ) → step ≡ noisy_bearing σ b z → Fits w32 step
bearing_fits σ b z step e = rw e (record { fits = omega (arith, bearing_most σ b z) })

-- a distance with its noise, by a sample as the machine reads it back
pub far_is : (σ d : ℕ) (x : ℤ) (mm : ℕ) → mm ≡ noisy_distance σ d (to_z w16 (of_z w16 x)) → σ ≤ limits.most_sigma → d ≤ limits.most_distance
    → nat_abs x ≤ largest_sample → mm ≤ most_distance
far_is σ d x mm e h k l = rw e (sized_most σ d _ h k (rw (reads16 x l) l))

-- the sine and the cosine that were returned
module _ {sin cos : ℤ} (step : ℕ) (e : (sin, cos) ≡ signed_of step) where
  sine_is : sin ≡ sine step
  sine_is = ap (λ (p : ℤ × ℤ). p.0) e

  cosine_is : cos ≡ cosine step
  cosine_is = ap (λ (p : ℤ × ℤ). p.1) e

  pub units : (nat_abs sin ≤ 2 ^ 30) × (nat_abs cos ≤ 2 ^ 30)
  units = rw (sine_is, cosine_is) (signed_range step)

  pub east_is : {mm D B : ℕ} (z : ℤ) → mm ≡ D → step ≡ B → z +ℤ pos mm *ℤ sin ≡ z +ℤ pos D *ℤ sine B
  east_is z m s = rw (sine_is, m, s)

  pub north_is : {mm D B : ℕ} (z : ℤ) → mm ≡ D → step ≡ B → z +ℤ pos mm *ℤ cos ≡ z +ℤ pos D *ℤ cosine B
  north_is z m s = rw (cosine_is, m, s)

-- before shot i: the sum so far and that of the shots ahead is that of all, and its size
pub record Summed (G : ℕ → ℤ) (distance bearing : ℕ) (zs : List LoopShot) (ss : List ℤ) (start sum : ℤ) (i : ℕ) : Type 0 where
  pub small : nat_abs sum ≤ nat_abs start + i * most
  pub ahead : sum +ℤ total G (noisy_shots distance bearing (drop i zs) (drop (2 * i) ss)) ≡ start +ℤ total G (noisy_shots distance bearing zs ss)

pub at_start : (G : ℕ → ℤ) (d b : ℕ) (zs : List LoopShot) (ss : List ℤ) (start : ℤ) → Summed G d b zs ss start start 0
at_start G d b zs ss start = record { small = omega arith; ahead = refl }

-- one shot more
module _ (G : ℕ → ℤ) (unit : (v : ℕ) → nat_abs (G v) ≤ 2 ^ 30) (d b : ℕ) (zs : List LoopShot) (ss : List ℤ) (start sum next : ℤ) (i : ℕ) (other : LoopShot) where
  pub one_more : Summed G d b zs ss start sum i → d ≤ limits.most_sigma → i < length zs → length ss ≡ 2 * length zs → Near zs → SmallSamples ss
      → next ≡ sum +ℤ product G (noisy_of d b (get_or zs i other) (to_z w16 (of_z w16 (get_or ss (2 * i) (pos 0)))) (to_z w16 (of_z w16 (get_or ss (2 * i + 1) (pos 0)))))
      → Summed G d b zs ss start next (i + 1)
  unfolding noisy_shots total Near SmallSamples
  one_more h steady more even near small e' =
      let x1 = get_or ss (2 * i) (pos 0) in
      let x2 = get_or ss (2 * i + 1) (pos 0) in
      let small1 = small (2 * i) (omega (arith, more, even)) in
      let small2 = small (2 * i + 1) (omega (arith, more, even)) in
      let e : next ≡ sum +ℤ product G (noisy_of d b (get_or zs i other) x1 x2) = rw (reads16 x1 small1, reads16 x2 small2) at e' in
      let x = noisy_of d b (get_or zs i other) x1 x2 in
      let far : x.distance ≤ most_distance = sized_most d _ _ steady (near i other more) small1 in
      let p : nat_abs (product G x) ≤ most = rw (product_size (pos x.distance) (G x.step)) (mul-le-mul far (unit x.step)) in
      let two : 2 * (i + 1) ≡ suc (suc (2 * i)) = omega arith in
      let one : 2 * i + 1 ≡ suc (2 * i) = omega arith in
      let i1 : i + 1 ≡ suc i = omega arith in
      let zs-is : drop i zs ≡ get_or zs i other ∷ drop (i + 1) zs = rw i1 (drop-cons zs i other more) in
      let ss-is : drop (2 * i) ss ≡ x1 ∷ x2 ∷ drop (2 * (i + 1)) ss = rw (two, one) (drop-cons ss (2 * i) (pos 0) (omega (arith, more, even)) ∙ ap (λ (l : List ℤ). x1 ∷ l) (drop-cons ss (suc (2 * i)) (pos 0) (omega (arith, more, even)))) in
      let whole : total G (noisy_shots d b (drop i zs) (drop (2 * i) ss)) ≡ product G x +ℤ total G (noisy_shots d b (drop (i + 1) zs) (drop (2 * (i + 1)) ss)) = ap₂ (λ (l : List LoopShot) (m : List ℤ). total G (noisy_shots d b l m)) zs-is ss-is in
      record {
        small = rw e (omega (arith, sum_size sum (product G x), p, h.small));
        ahead =
            ap (λ (z : ℤ). z +ℤ total G (noisy_shots d b (drop (i + 1) zs) (drop (2 * (i + 1)) ss))) e
            ∙ +ℤ_assoc sum (product G x) _
            ∙ ap (λ (z : ℤ). sum +ℤ z) (sym whole)
            ∙ h.ahead;
      }

pub at_end : (G : ℕ → ℤ) (d b : ℕ) (zs : List LoopShot) (ss : List ℤ) (start sum : ℤ) (i : ℕ) → Summed G d b zs ss start sum i → length zs ≤ i
    → sum ≡ start +ℤ total G (noisy_shots d b zs ss)
unfolding noisy_shots total
at_end G d b zs ss start sum i h e = sym (+ℤ_idr sum) ∙ rw (drop_of_length-le zs {i = i} e) at h.ahead

-- what a turn asks for
pub first_small : (ss : List ℤ) (i : ℕ) → SmallSamples ss → i < length ss → nat_abs (to_z w16 (of_z w16 (get_or ss i (pos 0)))) ≤ largest_sample
unfolding SmallSamples
first_small ss i h more = rw (reads16 (get_or ss i (pos 0)) (h i more)) (h i more)

pub near_at : (zs : List LoopShot) (i : ℕ) (other : LoopShot) → Near zs → i < length zs → (get_or zs i other).distance ≤ limits.most_distance
unfolding Near
near_at zs i other h more = h i other more
