-- The theorems of specs/Theorems.antt.
use mathlib.Core.Path.{◌≡◌, ap, ap₂, ◌∙◌}
use mathlib.Core.Bool.{true, false}
use mathlib.Core.List.{List, [], ◌++◌, map, map-append}
use Prim.Native.Nat.{ℕ, ◌≤◌}
use native.Mathlib.Omega.{arith}
use lib.IntN.{ℤ, ◌+ℤ◌}
use lib.ListN.{length, length-append}
use Rattle.noisy_shot.specs.Shots.{Shot}
use Rattle.sums.specs.Sums.{sine, cosine, total, rounded, most_shots}
use Rattle.sums.specs.Spans.{Span, low_shot, low_shots, least_shot, greatest_shot}
use Rattle.sums.proofs.SumLaws.{total_joined}
use Rattle.sums.proofs.Choices.{spans, low_chosen, choice_allowed}
use Rattle.sums.proofs.Theorems as sums
use Rattle.misclosure.specs.Misclosure.{accepted, miss_of, ends_of, intervals_of}
use Rattle.misclosure.specs.Theorems.{Theorems, Row, span_in, spans_in, Linked, chosen_rows, text_of, miss_in, intervals_in, ◌+ᵉ◌}
use Rattle.misclosure.proofs.Listings.{
  linked_accepted,
  accepted_linked,
  accepted_ranged,
  accepted_longest,
  linked_first,
  linked_second,
  lines_outcome,
  equal_outcome,
  chosen_linked,
}
use Rattle.misclosure.proofs.Answer.{equal_answer}
use Rattle.misclosure.proofs.Lines.{neither_6}
use Rattle.misclosure.proofs.Causes.{shot_codes, end_code}
use Rattle.misclosure.proofs.FirstBad.{first_bad_lem, missing_line, line_after, no_text, no_header}

-- ---- runs joined, by the shots that each kind of sum takes

joined_by : (G : ℕ → ℤ) (f : Span → Shot) (first second : List Row)
    → total G (map f (spans_in (first ++ second))) ≡ total G (map f (spans_in first)) +ℤ total G (map f (spans_in second))
joined_by G f first second =
    ap (λ (l : List Span). total G (map f l)) (map-append span_in first second)
    ∙ ap (total G) (map-append f (spans_in first) (spans_in second))
    ∙ total_joined G (map f (spans_in first)) (map f (spans_in second))

ends_joined : (G : ℕ → ℤ) (first second : List Row) → ends_of G (spans_in (first ++ second)) ≡ ends_of G (spans_in first) +ᵉ ends_of G (spans_in second)
ends_joined G first second =
    ap₂ (λ (x y : ℤ). record { low = x; high = y }) (joined_by G (least_shot G) first second) (joined_by G (greatest_shot G) first second)

-- the answers for linked rows
module _ (rows : List Row) (few : length rows ≤ most_shots) where
  miss_linked : Linked false [] rows → miss_in rows ≡ miss_of (accepted (spans_in rows))
  miss_linked h = ap miss_of (linked_accepted false rows h few)

  intervals_linked : Linked true [] rows → intervals_in rows ≡ intervals_of (accepted (spans_in rows))
  intervals_linked h = ap intervals_of (linked_accepted true rows h few)

module _ (first second : List Row) (few : length (first ++ second) ≤ most_shots) where
  first_few : length first ≤ most_shots
  first_few = omega (arith, length-append first second)

  second_few : length second ≤ most_shots
  second_few = omega (arith, length-append first second)

pub theorems : Theorems
unfolding miss_of intervals_of total Linked
theorems = record {
  shot_codes = shot_codes;
  end_code = end_code;
  neither_code = neither_6;
  accepted_listing = linked_accepted;
  listing_accepted = accepted_linked;
  first_bad_lem = λ between text l rows ls. first_bad_lem between text rows l ls;
  missing_line = missing_line;
  line_after = λ between text l rows ls. line_after between text rows l ls;
  no_text = no_text;
  no_header = no_header;
  longest = accepted_longest;
  close = λ text l e.
      let (few, ranged) = accepted_ranged false text l e in
      let a = choice_allowed l (low_shots l) few ranged (low_chosen l ranged) in
      rw e ((sums.theorems).close (low_shots l) a, (sums.theorems).closer (low_shots l) a);
  within_margin = λ text l e. rw e ((sums.theorems).within_margin (low_shots l));
  no_shots = rw (linked_accepted false [] tt (omega arith));
  joined = λ first second h few.
      let p = miss_linked first (first_few first second few) (linked_first false first second [] h) in
      let q = miss_linked second (second_few first second few) (linked_second false first second [] h) in
      rw (miss_linked (first ++ second) few h, p, q) (joined_by sine low_shot first second, joined_by cosine low_shot first second);
  spans = λ text l e.
      let (few, ranged) = accepted_ranged true text l e in
      rw e (spans l few ranged);
  fine_spans = λ text l e. rw e ((sums.theorems).fine_spans l);
  choice = λ rows c h few e.
      let (linked, count, same) = chosen_linked rows c [] h e in
      miss_linked (chosen_rows rows c) (omega (arith, few, count)) linked
      ∙ ap (λ (l : List Shot). record {
        code = 0;
        line = 0;
        east = total sine l;
        north = total cosine l;
        easting = rounded (total sine l);
        northing = rounded (total cosine l);
      }) same;
  equal_readings = λ rows h. ap intervals_of (equal_outcome rows h) ∙ equal_answer (text_of false rows);
  equal_lines = λ one two h. ap intervals_of (lines_outcome one two h) ∙ equal_answer one;
  intervals_joined = λ first second h few.
      let p = intervals_linked first (first_few first second few) (linked_first true first second [] h) in
      let q = intervals_linked second (second_few first second few) (linked_second true first second [] h) in
      rw (intervals_linked (first ++ second) few h, p, q) (ends_joined sine first second, ends_joined cosine first second);
}
