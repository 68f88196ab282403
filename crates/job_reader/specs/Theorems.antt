-- Why line k is refused, by what it says and in the document's numbers (document 01, the table of causes: "within it 6, 8, 9, 7, 1"; document 02, Job 1,
-- puts 11 and 12 for 1): the record below has a proof in proofs/Theorems.antt. What says none of the three forms is `no_form_lem` of crates/job_lines.
use Rattle.std.specs.Prelude.{ℕ, ◌≤◌, ◌<◌, ◌≡◌, List, ◌↔◌}
use Rattle.streams.specs.Theorems.{AtLeast}
use Rattle.job_lines.specs.Forms.{Form, seeds, sigma, shot, no_form}
use Rattle.job_reader.specs.Refusals.{refusal}

-- "Line 1: (seeds (a n n n) (b n n n))"; "a seed is at most 4294967295"
module _ (k a0 a1 a2 b0 b1 b2 : ℕ) where
  abbrev pub SeedsWithin : Type 0
  SeedsWithin =
      (a0 ≤ 4294967295) × (a1 ≤ 4294967295) × (a2 ≤ 4294967295) × (b0 ≤ 4294967295) × (b1 ≤ 4294967295) × (b2 ≤ 4294967295)

  -- each code just where its cause holds and none before it does
  pub record SeedsCodes (code : ℕ) : Type 0 where
    pub just_8 : (code ≡ 8) ↔ (k ≡ 1 → ⊥)
    pub just_7 : (code ≡ 7) ↔ ((k ≡ 1) × (SeedsWithin → ⊥))
    pub just_11 : (code ≡ 11) ↔ ((k ≡ 1) × SeedsWithin × (AtLeast a0 a1 a2 → ⊥))
    pub just_12 : (code ≡ 12) ↔ ((k ≡ 1) × SeedsWithin × (AtLeast a0 a1 a2 × (AtLeast b0 b1 b2 → ⊥)))
    pub just_0 : (code ≡ 0) ↔ ((k ≡ 1) × SeedsWithin × (AtLeast a0 a1 a2 × AtLeast b0 b1 b2))

-- "Line 2: (sigma n n) .. each 0 to 1000"
pub record SigmaCodes (k d b code : ℕ) : Type 0 where
  pub just_8 : (code ≡ 8) ↔ (k ≡ 2 → ⊥)
  pub just_7 : (code ≡ 7) ↔ ((k ≡ 2) × ((d ≤ 1000) × (b ≤ 1000) → ⊥))
  pub just_0 : (code ≡ 0) ↔ ((k ≡ 2) × (d ≤ 1000) × (b ≤ 1000))

-- "Then 0 to 500 lines (shot FROM TO n n): distance 0 to 1,000,000 mm, bearing 0 to 65535": the 501st is on line 503
pub record ShotCodes (k d b code : ℕ) : Type 0 where
  pub just_8 : (code ≡ 8) ↔ (k < 3)
  pub just_9 : (code ≡ 9) ↔ (502 < k)
  pub just_7 : (code ≡ 7) ↔ ((3 ≤ k) × (k ≤ 502) × ((d ≤ 1000000) × (b ≤ 65535) → ⊥))
  pub just_0 : (code ≡ 0) ↔ ((3 ≤ k) × (k ≤ 502) × (d ≤ 1000000) × (b ≤ 65535))

pub record Theorems : Type 0 where
  -- 6 just where the line says none of the forms
  pub just_6 : (k : ℕ) (x : Form) → (refusal k x ≡ 6) ↔ (x ≡ no_form)
  pub seeds_codes : (k a0 a1 a2 b0 b1 b2 : ℕ) → SeedsCodes k a0 a1 a2 b0 b1 b2 (refusal k (seeds a0 a1 a2 b0 b1 b2))
  pub sigma_codes : (k d b : ℕ) → SigmaCodes k d b (refusal k (sigma d b))
  pub shot_codes : (k : ℕ) (from to : List ℕ) (d b : ℕ) → ShotCodes k d b (refusal k (shot from to d b))
