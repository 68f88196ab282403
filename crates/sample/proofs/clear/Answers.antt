-- `clear` writes two samples of 0.
use Rattle.sample.proofs.ValuesLaws.{values_pair}
use Rattle.sample.proofs.StoredLaws.{none_read}
use Rattle.sample.proofs.clear.Goals as goal

pub returns : goal.returns
returns g c =
    let m = g.S.Sample in
    let law = g.met.S.Sample in
    values_pair law.each c.args.out.now c.told-out (none_read m.bits m.width law.holds c.of_units.ensures)
    (none_read m.bits m.width law.holds c.of_units-2.ensures)
