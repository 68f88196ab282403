-- For private functions; no public contract cites these. What the matches of the look-up crates need.
use Rattle.std.specs.Prelude.{◌≡◌, List, [], ◌∷◌, ℕ, zero, suc, ◌+◌, ◌*◌, ◌^◌}

-- What the last arm of a match knows whose other keys are 0, 1, .., n - 1: the number is none of them.
abbrev pub NoKey : ℕ → ℕ → Type 0
NoKey zero x = Unit {0}
NoKey (suc n) x = NoKey n x × (x ≡ n → ⊥)

-- Two lists in one: in each number the lower bits, as many as `width` says, from the second, and those above them from the first.
abbrev pub beside : ℕ → List ℕ → List ℕ → List ℕ
beside width [] lowers = []
beside width (x ∷ uppers) [] = []
beside width (x ∷ uppers) (y ∷ lowers) = (x * 2 ^ width + y) ∷ beside width uppers lowers
