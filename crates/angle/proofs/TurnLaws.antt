-- The four ways to turn, each a line of document 01.
use Rattle.std.proofs.Common.{◌≡◌, ℕ, zero, suc, ◌+◌, ◌/◌, ◌%◌, ◌^◌, cond, eqb, ℤ, pos, neg_ℤ, ap, ◌∙◌, ap₂}
use Rattle.exact.specs.Pair.{turn}
use Rattle.angle.specs.Private.{values_of}

abbrev minus : ℕ → ℤ
minus n = neg_ℤ (pos n)

-- sizes a and b, exchanged or not, with their signs
module _ (values s c : ℕ) {a b : ℕ} {x y : ℤ} where
  pub turned :
      a ≡ cond (eqb (values % 2) 1) c s → x ≡ cond (eqb (values / 2) 1) (neg_ℤ (pos a)) (pos a) → b ≡ cond (eqb (values % 2) 1) s c →
      y ≡ cond (eqb ((values + 1) % 2 ^ 32 / 2) 1) (neg_ℤ (pos b)) (pos b) → (q : ℕ) → values ≡ values_of q → (x, y) ≡ turn neg_ℤ q (pos s, pos c)
  turned ea ex eb ey q e = go q (rw e at ea) (rw e at ex) (rw e at eb) (rw e at ey)
    where
      go :
          (q : ℕ) → a ≡ cond (eqb (values_of q % 2) 1) c s → x ≡ cond (eqb (values_of q / 2) 1) (neg_ℤ (pos a)) (pos a) →
          b ≡ cond (eqb (values_of q % 2) 1) s c → y ≡ cond (eqb ((values_of q + 1) % 2 ^ 32 / 2) 1) (neg_ℤ (pos b)) (pos b) → (x, y) ≡ turn neg_ℤ q (pos s, pos c)
      go zero ea ex eb ey = ap₂ {A = ℤ} {B = ℤ} (λ x y. (x, y)) (ex ∙ ap pos ea) (ey ∙ ap pos eb)
      go (suc zero) ea ex eb ey = ap₂ {A = ℤ} {B = ℤ} (λ x y. (x, y)) (ex ∙ ap pos ea) (ey ∙ ap minus eb)
      go (suc (suc zero)) ea ex eb ey = ap₂ {A = ℤ} {B = ℤ} (λ x y. (x, y)) (ex ∙ ap minus ea) (ey ∙ ap minus eb)
      go (suc (suc (suc q))) ea ex eb ey = ap₂ {A = ℤ} {B = ℤ} (λ x y. (x, y)) (ex ∙ ap minus ea) (ey ∙ ap pos eb)
