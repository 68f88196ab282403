-- Document 01, 'Twelve readings to check', with the half step of document 02, in one table: 1 to 10 are (k, v) to samples, 11 and 12 the first two draws of the registers 2, 8, 16.
use Rattle.std.specs.Prelude.{◌≡◌, List, [], ◌∷◌, ◌++◌, map, ℕ}
use Rattle.streams.specs.Recurrence.{draw_at}
use Rattle.box_muller.specs.Steps.{fraction_bits}
use Rattle.box_muller.specs.Sample.{samples_of}
use Rattle.box_muller.specs.Readings.{Reading, readings}

pub data Check : Type 0 where
  of_samples : Reading → Check
  of_draw : ℕ → ℕ → Check

-- the pair's answer, or the draw of that number
abbrev pub Holds : Check → Type 0
Holds (of_samples r) = samples_of fraction_bits r.k r.v ≡ record { code = 0; first = r.first; second = r.second }
Holds (of_draw t word) = draw_at (record { s0 = 2; s1 = 8; s2 = 16 }) t ≡ word

abbrev pub AllHold : List Check → Type 0
AllHold [] = Unit {0}
AllHold (c ∷ l) = Holds c × AllHold l

unfoldable pub twelve : List Check
twelve = map of_samples readings ++ (of_draw 1 0x00202080 ∷ of_draw 2 0x02002C80 ∷ [])
