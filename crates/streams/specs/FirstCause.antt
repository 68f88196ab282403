-- The order in which causes are tested, over any type of refusals R that each have a code: what it is that a call's code is that of its first cause.
use Rattle.std.specs.Prelude.{◌≡◌, cond, List, [], ◌∷◌, ◌↔◌, ◌⊎◌, ℕ, ◌+◌, ◌<◌, eqb}

-- The place of a refusal in the order.
unfoldable pub place_in : {R : Type 0} → (R → ℕ) → List R → R → ℕ
place_in code [] r = 0
place_in code (q ∷ l) r = cond (eqb (code q) (code r)) 0 (1 + place_in code l r)

-- No cause that is tested before it holds.
abbrev pub NoneEarlier : {R : Type 0} → (R → ℕ) → List R → (R → Type 0) → R → Type 0
NoneEarlier {R} code order applies r = (q : R) → place_in code order q < place_in code order r → applies q → ⊥

-- "A refusal in the table comes under its cause and under no other."
pub record Decides {R : Type 0} (code : R → ℕ) (order : List R) (applies : R → Type 0) (n : ℕ) : Type 0 where
  -- each code just where its cause holds and none before it does
  pub under_cause : (r : R) → (n ≡ code r) ↔ (applies r × NoneEarlier code order applies r)
  -- accepted just where no cause holds
  pub accepted : (n ≡ 0) ↔ ((r : R) → applies r → ⊥)
  -- no code but these
  pub no_other : (n ≡ 0) ⊎ ((r : R) × (n ≡ code r))
