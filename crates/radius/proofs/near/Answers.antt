-- `radius::near` meets its contract: by what its cell gives.
use Rattle.std.proofs.Common.{ℕ, ◌*◌, ◌/◌, ◌%◌, ◌^◌, arith}
use lib.Count.{count_leading_zeros}
use Rattle.radius.proofs.CellLaws.{slope_left, root_fits}
use Rattle.radius.proofs.NearLaws.{near_is, product_fits, moved_back}
use Rattle.radius.proofs.near.Goals as goal

-- the places that x is moved up by are twice these, and its cell
abbrev places : ℕ → ℕ
places x = count_leading_zeros 64 x % 64 / 2

abbrev cell : ℕ → ℕ
cell x = x * 2 ^ (2 * places x) % 2 ^ 64 / 2 ^ 57

pub overflow_mul-slope : goal.overflow_mul-slope
overflow_mul-slope c = record { fits = product_fits _ _ (omega arith) (omega arith) }

pub overflow_sub-slope : goal.overflow_sub-slope
overflow_sub-slope c = slope_left (cell c.args.x) c.cell_at-cell.result.start _ _ _ (omega arith) c.cell_at-cell.ensures

pub overflow_mul-result-2 : goal.overflow_mul-result-2
overflow_mul-result-2 c = record { fits = product_fits _ _ (omega arith) (omega arith) }

pub overflow_add-result : goal.overflow_add-result
overflow_add-result c = record { fits = root_fits (cell c.args.x) _ _ _ _ (omega arith) c.cell_at-cell.ensures }

pub overflow_cast-result-3 : goal.overflow_cast-result-3
overflow_cast-result-3 c =
    record { fits = moved_back _ _ (root_fits (cell c.args.x) _ _ _ _ (omega arith) c.cell_at-cell.ensures) (omega arith) }

pub returns : goal.returns
returns c below =
    let x : ℕ = c.args.x in
    near_is x (places x) (cell x) _ _ _ _ _ (omega (arith, below)) (λ few. (omega arith, omega arith)) (omega arith) (omega arith) (omega arith)
    c.cell_at-cell.ensures (omega arith)
