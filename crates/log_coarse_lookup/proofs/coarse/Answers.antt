-- `log_coarse_lookup::coarse` meets its contract: the entries from 256 on, and the reciprocals below them.
use mathlib.Core.Path.{◌≡◌, refl, ap, ◌∙◌}
use Prim.Native.Nat.{ℕ, ◌+◌, ◌-◌, ◌*◌, ◌^◌, ◌<◌, ◌≤◌}
use native.Mathlib.Decide.{dec_le}
use native.Mathlib.Omega.{arith}
use lib.ListN.{get_or}
use Rattle.tables.specs.Tables.{entry_of, log_coarse, log_coarse_is}
use Rattle.tables.specs.Values.{log_coarse_list}
use Rattle.tables.proofs.Arms.{parts}
use Rattle.tables.proofs.Entries.{entry_at, entry_below, at_most_lem}
use Rattle.log_coarse_lookup.specs.Reciprocals.{reciprocals}
use Rattle.log_coarse_lookup.specs.Private.{rows, after}
use Rattle.log_coarse_lookup.proofs.Arms.{rows_are}
use Rattle.log_coarse_lookup.proofs.After.{after_is}
use Rattle.log_coarse_lookup.proofs.coarse.Goals as goal

-- every reciprocal has 32 bits
small : (h : ℕ) → entry_of reciprocals 256 h < 2 ^ 32
small h = omega (arith, at_most_lem (2 ^ 32 - 1) 256 reciprocals tt h)

both : (a b h : ℕ) → b < 2 ^ 32 → a * 2 ^ 32 + b ≡ get_or (after 256 rows) h 0 → (a ≡ entry_of log_coarse 256 h) × (b ≡ entry_of reciprocals 256 h)
both a b h few e = go (dec_le 256 h)
  where
    row : a * 2 ^ 32 + b ≡ entry_of rows 256 h
    row = e ∙ after_is 256 rows rows h refl

    go : Dec (256 ≤ h) → (a ≡ entry_of log_coarse 256 h) × (b ≡ entry_of reciprocals 256 h)
    go (no lt) =
        let none : a * 2 ^ 32 + b ≡ 0 = row ∙ entry_below rows 256 h (omega arith) in
        rw (entry_below log_coarse 256 h (omega arith), entry_below reciprocals 256 h (omega arith)) (omega arith, omega arith)
    go (yes le) =
        let at = entry_at reciprocals 256 h le in
        let (upper, lower) =
        parts 32 log_coarse_list reciprocals refl (h - 256) (a * 2 ^ 32 + b) (rw at at (small h))
        (row ∙ entry_at rows 256 h le ∙ ap (λ l. get_or l (h - 256) 0) rows_are) in
        rw (log_coarse_is, entry_at log_coarse_list 256 h le, at) (omega (arith, upper), omega (arith, lower))

pub returns : goal.returns
returns c = both _ _ _ (omega arith) c.nth-upper.ensures
