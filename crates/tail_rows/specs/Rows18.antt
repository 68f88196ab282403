-- The rows for samples of 18 bits: proofs/Table18.antt proves them. tools/tails.py works the rows out.
use Rattle.std.specs.Prelude.{List, [], ◌∷◌}
use Rattle.box_muller.specs.Steps.{fraction_bits18}
use Rattle.tail_rows.specs.Rows.{Row, row, Holds, Every}

-- The largest size, 8.2 σ, 8 σ, 7.5 σ, 7, 6, .. 1 σ, the quartile (0.6745 σ) and one unit.
abbrev pub rows18 : List Row
rows18 =
    row 67_517 214 218
    ∷ row 67_175 4_206 4_206
    ∷ row 65_536 22_324 22_324
    ∷ row 61_440 1_177_428 1_177_436
    ∷ row 57_344 47_236_420 47_237_032
    ∷ row 49_152 36_412_024_328 36_412_449_926
    ∷ row 40_960 10_578_847_553_908 10_578_950_882_908
    ∷ row 32_768 1_168_757_070_054_474 1_168_766_274_227_492
    ∷ row 24_576 49_812_203_857_115_318 49_812_502_672_776_080
    ∷ row 16_384 839_450_696_405_437_862 839_454_178_470_763_358
    ∷ row 8_192 5_853_880_504_945_600_572 5_853_894_007_719_910_346
    ∷ row 5_525 9_224_677_098_686_055_648 9_224_692_698_518_145_504
    ∷ row 1 18_445_829_045_019_406_896 18_445_829_824_554_418_004
    ∷ []

pub record TailRows18 : Type 0 where
  pub table18 : Every (Holds fraction_bits18) rows18
