-- What the definitions of a leg say, as theorems: the record below has a proof in proofs/LegTheorems.antt.
use Rattle.std.specs.Prelude.{ℕ, ◌+◌, ◌-◌, ◌*◌, ◌%◌, ◌^◌, ◌≤◌, ◌<◌, ◌≡◌, true, List, [], ◌∷◌, ◌++◌, ◌↔◌, ◌⊎◌, length, get_or}
use Rattle.text.specs.Ascii.{byte}
use Rattle.text.specs.Fields.{all, digit, name, value}
use Rattle.noisy_shot.specs.Rounding.{turn_steps}
use Rattle.survex_reader.specs.Limits.{compass_turn}
use Rattle.survex_reader.specs.Legs.{whole, decimals, is_decimal, scaled, step_of, leg, wrong, leg_form, leg_range, read_leg}

-- how far two whole numbers are apart
abbrev pub apart : ℕ → ℕ → ℕ
apart a b = (a - b) + (b - a)

-- of all multiples of d, that of s is the nearest to x, and where two are, the upper one
pub record Nearest (x d s : ℕ) : Type 0 where
  pub nearest : (t : ℕ) → apart x (s * d) ≤ apart x (t * d)
  pub upper : (t : ℕ) → apart x (s * d) ≡ apart x (t * d) → t ≤ s

-- ---- What a leg is

pub record Digits (most : ℕ) (l : List ℕ) : Type 0 where
  pub some : 1 ≤ length l
  pub few : length l ≤ most
  pub digits : all digit l ≡ true

-- "1 to 4 digits, then perhaps a point and 1 or more decimals", at most so many
abbrev pub Number : ℕ → List ℕ → Type 0
Number most l =
    Digits 4 l
    ⊎ ((before : List ℕ) × (after : List ℕ) × Digits 4 before × Digits most after × (l ≡ before ++ (byte "." ∷ after)))

-- "legs of five fields": two names, a tape of "at most 3 decimals", a compass of "at most 2", and a clino
pub record Formed (v : List (List ℕ)) : Type 0 where
  pub five : length v ≡ 5
  pub from : name (get_or v 0 []) ≡ true
  pub to : name (get_or v 1 []) ≡ true
  pub tape : Number 3 (get_or v 2 [])
  pub compass : Number 2 (get_or v 3 [])

-- "up to 1000" metres, in mm; "0 to 360" degrees, in hundredths; "Clino must be the single digit 0."
pub record Ranged (v : List (List ℕ)) : Type 0 where
  pub tape : scaled 3 (get_or v 2 []) ≤ 1000000
  pub compass : scaled 2 (get_or v 3 []) ≤ 36000
  pub clino : get_or v 4 [] ≡ byte "0" ∷ []

pub record Theorems : Type 0 where
  -- "21: any other line, name or number form"; "22: a number out of range, or any other clino"; "21 before 22"
  pub formed : (v : List (List ℕ)) → (leg_form v ≡ true) ↔ Formed v
  pub ranged : (v : List (List ℕ)) → (leg_range v ≡ true) ↔ Ranged v
  pub get_21 : (v : List (List ℕ)) → (Formed v → ⊥) → read_leg v ≡ wrong 21
  pub get_22 : (v : List (List ℕ)) → Formed v → (Ranged v → ⊥) → read_leg v ≡ wrong 22
  pub get_leg : (v : List (List ℕ)) → Formed v → Ranged v
      → read_leg v ≡ leg (get_or v 0 []) (get_or v 1 []) (scaled 3 (get_or v 2 [])) (step_of (scaled 2 (get_or v 3 [])))
  -- c hundredths of a degree are c × 65536 / 36000 steps: the bearing is the nearest step, halves up, "360 as 0"
  pub bearing : (c : ℕ) → (s : ℕ) × Nearest (c * turn_steps) compass_turn s × (step_of c ≡ s % turn_steps)
  -- no compass of two decimals lies half way between two steps: 65536 / 36000 is 2048 / 1125
  pub no_half : (c s : ℕ) → 2 * (c * turn_steps) ≡ (2 * s + 1) * compass_turn → ⊥
  pub whole_turn : step_of compass_turn ≡ 0
  pub step_below : (c : ℕ) → step_of c < turn_steps
  -- a tape is exact: the number that its digits spell, with as many decimals as it has, times the units that a whole one has
  pub exact : (most : ℕ) (l : List ℕ) → is_decimal most l ≡ true
      → scaled most l * 10 ^ length (decimals l) ≡ value 0 (whole l ++ decimals l) * 10 ^ most
