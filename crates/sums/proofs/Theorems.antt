-- The theorems of specs/Theorems.antt.
use mathlib.Core.Path.{◌≡◌, refl, sym, ap, ◌∙◌}
use mathlib.Core.List.{[], ◌∷◌}
use Prim.Native.Nat.{ℕ, suc, zero, ◌+◌, ◌*◌, ◌/◌, ◌%◌, ◌≤◌, ◌<◌}
use native.Mathlib.Nat.{mul-zero}
use native.Mathlib.Omega.{arith}
use lib.IntN.{ℤ, pos, negsuc, neg_ℤ, neg_ℤ-neg_ℤ, ◌+ℤ◌, ◌*ℤ◌, +ℤ_idr, +ℤ_invr}
use Rattle.angle.specs.Steps.{signed_of, quarter_on}
use Rattle.angle.proofs.QuarterTurn.{signed_quarter}
use Rattle.noisy_shot.specs.Shots.{Shot}
use Rattle.sums.specs.Sums.{sine, cosine, total, rounded}
use Rattle.sums.specs.Theorems.{Theorems, half_turned}
use Rattle.sums.proofs.SumLaws.{sum_mono, total_joined, sums_overlap, sums_narrow}
use Rattle.sums.proofs.Nearness.{close_within, within_margin, wider}
use Rattle.sums.proofs.Choices.{spans, equal_sums}
use Rattle.sums.proofs.FineChoices.{fine_spans}

-- two quarter turns change both signs
half_signed : (v : ℕ) → v < 65536 → signed_of ((v + 32768) % 65536) ≡ (neg_ℤ (signed_of v).0, neg_ℤ (signed_of v).1)
half_signed v h =
    let e : (v + 32768) % 65536 ≡ quarter_on (quarter_on v) = omega arith in
    rw (e, signed_quarter (quarter_on v) (omega arith), signed_quarter v h)

-- d x and d (-x) cancel
times_negated : (d : ℕ) (x : ℤ) → pos d *ℤ neg_ℤ x ≡ neg_ℤ (pos d *ℤ x)
times_negated d (pos zero) = rw mul-zero
times_negated d (pos (suc n)) = refl
times_negated d (negsuc n) = sym (neg_ℤ-neg_ℤ (pos (d * suc n)))

cancel : (G : ℕ → ℤ) (s : Shot) → G ((s.step + 32768) % 65536) ≡ neg_ℤ (G s.step) → total G (s ∷ half_turned s ∷ []) ≡ pos 0
unfolding total
cancel G s e =
    let x = pos s.distance *ℤ G s.step in
    ap (λ (y : ℤ). x +ℤ (pos s.distance *ℤ y +ℤ pos 0)) e
    ∙ ap (λ (y : ℤ). x +ℤ y) (+ℤ_idr (pos s.distance *ℤ neg_ℤ (G s.step)) ∙ times_negated s.distance (G s.step))
    ∙ +ℤ_invr x

nearest : (n q : ℕ) → 1073741824 * q ≤ n + 536870912 → n + 536870912 < 1073741824 * (q + 1)
    → (rounded (pos n) ≡ pos q) × (rounded (neg_ℤ (pos n)) ≡ neg_ℤ (pos q))
nearest zero q low high = let none : 0 ≡ q = omega (arith, low, high) in (ap pos none, ap (λ (m : ℕ). neg_ℤ (pos m)) none)
nearest (suc n) q low high =
    let e : (suc n + 536870912) / 1073741824 ≡ q = omega (arith, low, high) in
    (ap pos e, ap (λ (m : ℕ). neg_ℤ (pos m)) e)

pub theorems : Theorems
unfolding total
theorems = record {
  limits = (refl, refl, refl);
  nearest = nearest;
  halves = λ q. nearest (1073741824 * q + 536870912) (q + 1) (omega arith) (omega arith);
  close = close_within _ (omega arith);
  closer = close_within _ (omega arith);
  within_margin = within_margin;
  ten_km = λ l h. wider _ _ (omega (arith, h)) l _ _ (within_margin l);
  points = λ E P h l. (sum_mono _ P (λ v. (h v).0) l, sum_mono P _ (λ v. (h v).1) l);
  overlap = sums_overlap;
  narrow = sums_narrow;
  no_shots = λ G. (refl, refl);
  joined = total_joined;
  half_turn = λ s h.
      let e = half_signed s.step h in
      (cancel sine s (ap (λ (p : ℤ × ℤ). p.0) e), cancel cosine s (ap (λ (p : ℤ × ℤ). p.1) e));
  spans = spans;
  fine_spans = fine_spans;
  equal_readings = equal_sums;
}
