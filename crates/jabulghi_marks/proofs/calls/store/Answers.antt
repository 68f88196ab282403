-- `store` is `stored_in`.
use Rattle.std.proofs.Common.{◌≡◌, ℕ, ◌+◌, ◌-◌, ◌*◌, arith, refl, length, rules}
use Rattle.jabulghi_marks.proofs.Filling.{part_written}
use Rattle.jabulghi_marks.proofs.calls.store.Goals as goal

pub returns : goal.returns
returns c =
    let at : ℕ = c.args.place * 10 in
    let size : length c.args.words ≡ 10 = search rules in
    let room : length c.args.records.now ≡ 160 = search rules in
    let part = part_written c.args.records.now c.args.words at {k = at + 10 - at} (omega (arith, c.requires, size, room))
    c.copy_from_slice.ensures.after (omega (arith, size)) in
    rw (c.put.ensures.1, part) refl
