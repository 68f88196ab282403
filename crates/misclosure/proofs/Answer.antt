-- The answers: the sums of a listing, and each rounded once.
use native.Mathlib.Omega.{arith}
use Prim.Native.Nat.{ℕ}
use mathlib.Core.Path.{◌≡◌, refl, ap, ap₂, ◌∙◌}
use mathlib.Core.Bool.{true, false}
use mathlib.Core.List.{List}
use lib.IntN.{ℤ, pos}
use Rattle.sums.specs.Sums.{sine, cosine, rounded}
use Rattle.sums.proofs.Choices.{equal_sums}
use Rattle.misclosure.specs.Misclosure.{Outcome, refused, accepted, listing_of, miss_of, both_ends, rounded_ends, intervals_of}
use Rattle.misclosure.specs.Private.{number_of, Sums, sums_of, sums_in}
use Rattle.misclosure.specs.Theorems.{as_intervals}
use Rattle.misclosure.specs.declared.Miss.{Miss}
use Rattle.misclosure.specs.declared.IntervalSums.{IntervalSums}
use Rattle.misclosure.specs.declared.Ends.{Ends}
use Rattle.std.specs.Prelude.{Ok, Err}
use Rattle.misclosure.specs.declared.state.Totals.{Totals}
use Rattle.misclosure.specs.declared.walk.BadLine.{BadLine}
use Rattle.misclosure.proofs.Machine.{again, reads, rounded_reads}
use Rattle.misclosure.proofs.Listings.{accepted_equal}

-- low sums with each rounded
abbrev answer : Sums → Miss
answer r = record {
  code = r.code;
  line = r.line;
  east = r.east.low;
  north = r.north.low;
  easting = rounded r.east.low;
  northing = rounded r.north.low;
}

-- both ends with each rounded
abbrev answers : Sums → IntervalSums
answers r = record {
  code = r.code;
  line = r.line;
  east = r.east;
  north = r.north;
  easting = rounded_ends r.east;
  northing = rounded_ends r.north;
}

-- where low equals high throughout, the low sums are those of the only choice
low_answer : (text : List ℕ) (o : Outcome) → listing_of false text ≡ o → answer (sums_of o) ≡ miss_of o
unfolding miss_of
low_answer text (refused code line) e = refl
low_answer text (accepted l) e =
    let h = accepted_equal text l e in
    ap₂ (λ (x y : ℤ). record { code = 0; line = 0; east = x; north = y; easting = rounded x; northing = rounded y })
    (equal_sums sine l h).0 (equal_sums cosine l h).0

all_answers : (o : Outcome) → answers (sums_of o) ≡ intervals_of o
unfolding intervals_of
all_answers (refused code line) = refl
all_answers (accepted l) = refl

-- and both ends are
pub equal_answer : (text : List ℕ) → intervals_of (listing_of false text) ≡ as_intervals (miss_of (listing_of false text))
unfolding miss_of intervals_of
equal_answer text = go (listing_of false text) refl
  where
    go : (o : Outcome) → listing_of false text ≡ o → intervals_of o ≡ as_intervals (miss_of o)
    go (refused code line) e = refl
    go (accepted l) e =
        let h = accepted_equal text l e in
        let (a, b) = equal_sums sine l h in
        let (c, d) = equal_sums cosine l h in
        rw (a, b, c, d) refl

-- a listing that is refused
module _ (text : List ℕ) (bad : BadLine) where
  pub miss_refused : sums_in (Err bad) ≡ sums_of (listing_of false text)
      → ◌≡◌ {A = Miss} (record { code = number_of bad.cause; line = bad.line; east = pos 0; north = pos 0; easting = pos 0; northing = pos 0 }) (miss_of (listing_of false text))
  miss_refused e = ap answer e ∙ low_answer text (listing_of false text) refl

  pub intervals_refused : sums_in (Err bad) ≡ sums_of (listing_of true text)
      → ◌≡◌ {A = IntervalSums} (record { code = number_of bad.cause; line = bad.line; east = both_ends (pos 0); north = both_ends (pos 0); easting = both_ends (pos 0); northing = both_ends (pos 0) })
      (intervals_of (listing_of true text))
  intervals_refused e = ap answers e ∙ all_answers (listing_of true text)

-- one that is accepted
pub miss_is : (text : List ℕ) (t : Totals) (a b : ℤ) → sums_in (Ok t) ≡ sums_of (listing_of false text) → a ≡ rounded (again t.east.low)
    → b ≡ rounded (again t.north.low)
    → ◌≡◌ {A = Miss} (record { code = 0; line = 0; east = again t.east.low; north = again t.north.low; easting = again a; northing = again b })
    (miss_of (listing_of false text))
miss_is text t a b e east north =
    rw (
      rounded_reads a t.east.low (omega (arith, t.east_size)) east,
      rounded_reads b t.north.low (omega (arith, t.north_size)) north,
      reads t.east.low (omega (arith, t.east_size)),
      reads t.north.low (omega (arith, t.north_size)),
    )
    (ap answer e ∙ low_answer text (listing_of false text) refl)

pub intervals_are : (o : Outcome) (t : Totals) (a b : Ends) → sums_in (Ok t) ≡ sums_of o → a ≡ rounded_ends t.east → b ≡ rounded_ends t.north
    → ◌≡◌ {A = IntervalSums} (record { code = 0; line = 0; east = t.east; north = t.north; easting = a; northing = b }) (intervals_of o)
intervals_are o t a b e east north = rw (east, north) (ap answers e ∙ all_answers o)
