-- The refusals of the call from k and v, at any number f of fraction bits, in document 01's words and numbers: "k of 2^48 or more", 2; "v above
-- 65535", 3; "samples 0 0"; "Order: 2 before 3". proofs/Refusals.antt proves them.
use Rattle.std.specs.Prelude.{◌≡◌, ℕ, ◌-◌, ◌^◌, ◌≤◌, ◌<◌}
use Rattle.box_muller.specs.Sample.{first_of, second_of, refused, samples_of}

pub record Refusals : Type 0 where
  -- where both causes are met, 2
  pub both : (f : ℕ) → samples_of f (2 ^ 48) 65536 ≡ refused 2
  -- k of 2^48 or more gives 2, whatever v is
  pub two : (f k v : ℕ) → 2 ^ 48 ≤ k → samples_of f k v ≡ refused 2
  -- else v above 65535 gives 3
  pub three : (f k v : ℕ) → k < 2 ^ 48 → 65535 < v → samples_of f k v ≡ refused 3
  -- else 0 and the two samples
  pub none : (f k v : ℕ) → k < 2 ^ 48 → v ≤ 65535 → samples_of f k v ≡ record { code = 0; first = first_of f k v; second = second_of f k v }
  -- so the largest k and the largest v are accepted, and one more v is not
  pub largest : (f : ℕ) → (samples_of f (2 ^ 48 - 1) 65535).code ≡ 0
  pub one_more : (f : ℕ) → samples_of f (2 ^ 48 - 1) 65536 ≡ refused 3
