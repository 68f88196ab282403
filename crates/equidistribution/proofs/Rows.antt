-- Every number of bits and draws: by 16 rows, each the largest number of bits for its draws.
use Prim.Native.Nat.{ℕ, suc, ◌*◌, ◌≤◌, ◌<◌}
use native.Mathlib.Nat.{mul-le-mul_right, mul-le-mul_left}
use native.Mathlib.Decide.{dec_le}
use native.Mathlib.Omega.{arith}
use Rattle.bit_matrix.specs.Matrices.{units}
use Rattle.equidistribution.specs.Equidistribution.{state_bits}
use Rattle.streams.specs.Streams.{step, advance, output}
use Rattle.equidistribution.proofs.Additive.{pattern}
use Rattle.equidistribution.proofs.Reach.{same_list, row_test, Reach, reach, fewer}
use Rattle.equidistribution.proofs.Columns as columns

row1 : Reach 1 88
unfolding row_test same_list pattern advance step output units columns.columns1
row1 = reach 1 87 (omega arith) columns.columns1 tt

row2 : Reach 2 44
unfolding row_test same_list pattern advance step output units columns.columns2
row2 = reach 2 43 (omega arith) columns.columns2 tt

row3 : Reach 3 29
unfolding row_test same_list pattern advance step output units columns.columns3
row3 = reach 3 28 (omega arith) columns.columns3 tt

row4 : Reach 4 22
unfolding row_test same_list pattern advance step output units columns.columns4
row4 = reach 4 21 (omega arith) columns.columns4 tt

row5 : Reach 5 17
unfolding row_test same_list pattern advance step output units columns.columns5
row5 = reach 5 16 (omega arith) columns.columns5 tt

row6 : Reach 6 14
unfolding row_test same_list pattern advance step output units columns.columns6
row6 = reach 6 13 (omega arith) columns.columns6 tt

row7 : Reach 7 12
unfolding row_test same_list pattern advance step output units columns.columns7
row7 = reach 7 11 (omega arith) columns.columns7 tt

row8 : Reach 8 11
unfolding row_test same_list pattern advance step output units columns.columns8
row8 = reach 8 10 (omega arith) columns.columns8 tt

row9 : Reach 9 9
unfolding row_test same_list pattern advance step output units columns.columns9
row9 = reach 9 8 (omega arith) columns.columns9 tt

row11 : Reach 11 8
unfolding row_test same_list pattern advance step output units columns.columns11
row11 = reach 11 7 (omega arith) columns.columns11 tt

row12 : Reach 12 7
unfolding row_test same_list pattern advance step output units columns.columns12
row12 = reach 12 6 (omega arith) columns.columns12 tt

row14 : Reach 14 6
unfolding row_test same_list pattern advance step output units columns.columns14
row14 = reach 14 5 (omega arith) columns.columns14 tt

row17 : Reach 17 5
unfolding row_test same_list pattern advance step output units columns.columns17
row17 = reach 17 4 (omega arith) columns.columns17 tt

row22 : Reach 22 4
unfolding row_test same_list pattern advance step output units columns.columns22
row22 = reach 22 3 (omega arith) columns.columns22 tt

row29 : Reach 29 3
unfolding row_test same_list pattern advance step output units columns.columns29
row29 = reach 29 2 (omega arith) columns.columns29 tt

row32 : Reach 32 2
unfolding row_test same_list pattern advance step output units columns.columns32
row32 = reach 32 1 (omega arith) columns.columns32 tt

-- ---- All others

-- Every pattern of at least so many bits a draw.
abbrev From : ℕ → Type 0
From least = (l t : ℕ) → least ≤ l → l ≤ 32 → l * t ≤ state_bits → Reach l t

none : From 33
none l t low top few = absurd (omega arith)

-- T draws of L bits, where no more draws have `least` bits.
and_row : (least L T : ℕ) → L ≤ 32 → state_bits < least * suc T → Reach L T → From (suc L) → From least
and_row least L T width most row rest l t low top few =
    elim (dec_le l L) [
      | yes k ↦ fewer L T l t width k draws row
      | no n ↦ rest l t (omega arith) top few
    ]
  where
    draws : t ≤ T
    draws =
        elim (dec_le t T) [
          | yes k ↦ k
          | no n ↦ let more : suc T ≤ t = omega arith in omega (arith, mul-le-mul_left least more, mul-le-mul_right t low, most)
        ]

pub every_row : From 1
unfolding state_bits
every_row =
    and_row 1 1 88 (omega arith) (omega arith) row1 (
    and_row 2 2 44 (omega arith) (omega arith) row2 (
    and_row 3 3 29 (omega arith) (omega arith) row3 (
    and_row 4 4 22 (omega arith) (omega arith) row4 (
    and_row 5 5 17 (omega arith) (omega arith) row5 (
    and_row 6 6 14 (omega arith) (omega arith) row6 (
    and_row 7 7 12 (omega arith) (omega arith) row7 (
    and_row 8 8 11 (omega arith) (omega arith) row8 (
    and_row 9 9 9 (omega arith) (omega arith) row9 (
    and_row 10 11 8 (omega arith) (omega arith) row11 (
    and_row 12 12 7 (omega arith) (omega arith) row12 (
    and_row 13 14 6 (omega arith) (omega arith) row14 (
    and_row 15 17 5 (omega arith) (omega arith) row17 (
    and_row 18 22 4 (omega arith) (omega arith) row22 (
    and_row 23 29 3 (omega arith) (omega arith) row29 (
    and_row 30 32 2 (omega arith) (omega arith) row32 none)))))))))))))))
