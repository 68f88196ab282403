-- What a line does, by what is known of it.
use Prim.Native.Nat.{ℕ, ◌-◌, ◌≤◌, ◌<◌}
use native.Mathlib.Omega.{arith}
use mathlib.Core.Path.{◌≡◌, refl, sym}
use mathlib.Core.Bool.{Bool, true, false, cond, ◌||◌}
use mathlib.Core.List.{List, []}
use lib.Dec.{ltb, eqb}
use borrow.Author.Tests.{lt-ltb, le-ltb, ltb-false, eq-eqb, ne_eqb, eqb-true}
use Rattle.text.specs.Fields.{part_of}
use Rattle.listing_rows.specs.Entries.{leg, last, neither}
use Rattle.listing_rows.specs.declared.read.Span.{Span as SpanFields}
use Rattle.job_lines.specs.Links.{follows, station_code}
use Rattle.misclosure.specs.Misclosure.{last_line, most_step, beyond, refusal}
use Rattle.sums.specs.Sums.{most_distance}
use Rattle.misclosure.specs.Private.{Limited, shot_said}
use Rattle.misclosure.specs.declared.state.State.{State}

-- a shot beyond one of its limits, or within them all
module _ (k low high step : ℕ) where
  pub too_many_lem : last_line < k → beyond k low high step ≡ true
  unfolding beyond
  too_many_lem h = rw (lt-ltb last_line k h)

  pub low_far : k ≤ last_line → most_distance < low → beyond k low high step ≡ true
  unfolding beyond
  low_far h e = rw (le-ltb last_line k h, lt-ltb most_distance low e)

  pub high_far : k ≤ last_line → low ≤ most_distance → most_distance < high → beyond k low high step ≡ true
  unfolding beyond
  high_far h d e = rw (le-ltb last_line k h, le-ltb most_distance low d, lt-ltb most_distance high e)

  pub too_wide : k ≤ last_line → low ≤ most_distance → high ≤ most_distance → most_step < step → beyond k low high step ≡ true
  unfolding beyond
  too_wide h d e f = rw (le-ltb last_line k h, le-ltb most_distance low d, le-ltb most_distance high e, lt-ltb most_step step f)

  pub in_range_lem : k ≤ last_line → low ≤ most_distance → high ≤ most_distance → step ≤ most_step → beyond k low high step ≡ false
  unfolding beyond
  in_range_lem h d e f = rw (le-ltb last_line k h, le-ltb most_distance low d, le-ltb most_distance high e, le-ltb most_step step f)

-- the code of a shot: its first cause
module _ (k : ℕ) (station from to : List ℕ) (low high step : ℕ) where
  pub leg_0 : beyond k low high step ≡ false → low ≤ high → follows station from ≡ true → refusal k station (leg from to low high step) ≡ 0
  unfolding refusal station_code
  leg_0 e h f = rw (e, le-ltb high low h, f)

  -- an accepted shot is within its limits, its readings are in order, and it follows the one before
  pub leg_within : refusal k station (leg from to low high step) ≡ 0
      → (k ≤ last_line) × (high ≤ most_distance) × (step ≤ most_step) × (low ≤ high) × (follows station from ≡ true)
  unfolding refusal beyond station_code
  leg_within h =
      go (ltb last_line k) refl (ltb most_distance low) (ltb most_distance high) refl (ltb most_step step) refl (ltb high low) refl (follows station from) refl h
    where
      go : (a : Bool) → ltb last_line k ≡ a → (z b : Bool) → ltb most_distance high ≡ b → (c : Bool) → ltb most_step step ≡ c → (o : Bool) → ltb high low ≡ o
          → (d : Bool) → follows station from ≡ d → ◌≡◌ {A = ℕ} (cond (a || (z || (b || c))) 24 (cond o 25 (cond d 0 23))) 0
          → (k ≤ last_line) × (high ≤ most_distance) × (step ≤ most_step) × (low ≤ high) × (d ≡ true)
      go true p z b q c r o u d t h = absurd (omega (arith, h))
      go false p true b q c r o u d t h = absurd (omega (arith, h))
      go false p false true q c r o u d t h = absurd (omega (arith, h))
      go false p false false q true r o u d t h = absurd (omega (arith, h))
      go false p false false q false r true u d t h = absurd (omega (arith, h))
      go false p false false q false r false u false t h = absurd (omega (arith, h))
      go false p false false q false r false u true t h =
          (ltb-false last_line k p, ltb-false most_distance high q, ltb-false most_step step r, ltb-false high low u, refl)

-- an accepted end has the true count
pub last_count : (k : ℕ) (station : List ℕ) (count : ℕ) → refusal k station (last count) ≡ 0 → count ≡ k - 2
unfolding refusal
last_count k station count h = go (eqb count (k - 2)) refl h
  where
    go : (b : Bool) → eqb count (k - 2) ≡ b → ◌≡◌ {A = ℕ} (cond b 0 6) 0 → count ≡ k - 2
    go true e h = eqb-true count (k - 2) e
    go false e h = absurd (omega (arith, h))

pub last_6 : (k : ℕ) (station : List ℕ) (count : ℕ) → (count ≡ k - 2 → ⊥) → refusal k station (last count) ≡ 6
unfolding refusal
last_6 k station count h = rw (ne_eqb count (k - 2) h)

pub last_0 : (k : ℕ) (station : List ℕ) (count : ℕ) → count ≡ k - 2 → refusal k station (last count) ≡ 0
unfolding refusal
last_0 k station count h = rw (eq-eqb count (k - 2) h)

-- whatever the station
pub any_end : (k : ℕ) (station : List ℕ) (count : ℕ) {n : ℕ} → n ≡ refusal k [] (last count) → n ≡ refusal k station (last count)
unfolding refusal
any_end k station count e = e

pub neither_6 : (k : ℕ) (station : List ℕ) → refusal k station neither ≡ 6
unfolding refusal
neither_6 k station = refl

-- a shot on an accepted line, and the state that it leads to
module _ (row : List ℕ) (s : State) (x : SpanFields) {from : List ℕ} (there : from ≡ part_of row x.from) where
  pub same_code : {n : ℕ} → n ≡ refusal s.line s.station.now (leg from [] x.low x.high x.step) → n ≡ refusal s.line s.station.now (shot_said row x)
  unfolding refusal
  same_code e = rw there at e

  pub shot_limited : 0 ≡ refusal s.line s.station.now (leg from [] x.low x.high x.step) → Limited s.line x
  shot_limited e =
      let (few, far, turn, order, next) = leg_within s.line s.station.now (part_of row x.from) (part_of row x.to) x.low x.high x.step (sym (same_code e)) in
      record { few = few; low = omega (arith, far, order); high = far; step = turn }
