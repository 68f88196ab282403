-- `shot_entry` meets its contract.
use Rattle.std.proofs.Common.{sym, ◌∙◌}
use Rattle.text.proofs.Readings.{first_not, second_not, third_not}
use Rattle.listing_rows.proofs.Reading.{leg_unnamed, leg_nowhere, leg_unmeasured, leg_whole}
use Rattle.listing_rows.proofs.read.shot_entry.Goals as goal

pub returns-then-not-name_at : goal.returns-then-not-name_at
returns-then-not-name_at c = leg_unnamed _ _ (sym c.if-not-name_at.true ∙ c.name_at.ensures)

pub returns-then-not-name_at-2 : goal.returns-then-not-name_at-2
returns-then-not-name_at-2 c =
    leg_nowhere _ _ (sym c.if-not-name_at.false ∙ c.name_at.ensures) (sym c.if-not-name_at-2.true ∙ c.name_at-2.ensures)

pub returns-in_err-n : goal.returns-in_err-n
returns-in_err-n c =
    let m = sym c.if-not-name_at.false ∙ c.name_at.ensures in
    let n = sym c.if-not-name_at-2.false ∙ c.name_at-2.ensures in
    rw c.from_residual.ensures (leg_unmeasured _ _ m n (first_not _ _ _ _ c.three_at-n.ensures c.in_err-n.was))

pub returns-in_err-n-2 : goal.returns-in_err-n-2
returns-in_err-n-2 c =
    let m = sym c.if-not-name_at.false ∙ c.name_at.ensures in
    let n = sym c.if-not-name_at-2.false ∙ c.name_at-2.ensures in
    rw c.from_residual-in_err-n-2.ensures (leg_unmeasured _ _ m n (second_not _ _ _ _ c.three_at-n.ensures c.in_err-n-2.was))

pub returns-in_err-n-3 : goal.returns-in_err-n-3
returns-in_err-n-3 c =
    let m = sym c.if-not-name_at.false ∙ c.name_at.ensures in
    let n = sym c.if-not-name_at-2.false ∙ c.name_at-2.ensures in
    rw c.from_residual-in_err-n-3.ensures (leg_unmeasured _ _ m n (third_not _ _ _ _ c.three_at-n.ensures c.in_err-n-3.was))

pub returns : goal.returns
returns c =
    let m = sym c.if-not-name_at.false ∙ c.name_at.ensures in
    let n = sym c.if-not-name_at-2.false ∙ c.name_at-2.ensures in
    leg_whole _ _ m n _ c.three_at-n.ensures _ _ _ c.in_ok-n.was c.in_ok-n-2.was c.in_ok-n-3.was
