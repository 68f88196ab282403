-- The first bad line of a listing, after shots that are accepted.
use Prim.Native.Nat.{ℕ, suc, ◌+◌, ◌≤◌}
use native.Mathlib.Omega.{arith}
use native.Mathlib.Nat.{add-zero}
use mathlib.Core.Path.{◌≡◌, refl, ap, subst, ◌∙◌}
use mathlib.Core.Bool.{Bool, true, false, cond}
use mathlib.Core.List.{List, [], ◌∷◌, ◌++◌, map}
use lib.ListN.{length}
use Rattle.text.specs.Scan.{lines}
use Rattle.listing_rows.specs.Rows.{end_row, header_of}
use Rattle.listing_rows.specs.Entries.{is_header, Said, read_entry}
use Rattle.listing_rows.proofs.RoundTrip.{row_read, end_read, header_read, header_is}
use Rattle.misclosure.specs.Misclosure.{last_line, refusal, refused, onto, no_lines, station_after, onward, outcome, headed, listing_of}
use Rattle.misclosure.specs.Theorems.{Row, span_in, row_text, LinkedRow, Linked, station_of, Begins}
use Rattle.misclosure.proofs.Lines.{in_range_lem, leg_0, last_0}
use Rattle.misclosure.proofs.Going.{outcome_yes, outcome_no}
use Rattle.misclosure.proofs.Listings.{ordered_alike}

module _ (b : Bool) where
  -- an accepted shot before lines that are refused
  one_more : (r : Row) (k : ℕ) (station : List ℕ) (ls : List (List ℕ)) (n j : ℕ) → LinkedRow b station r → k ≤ last_line
      → outcome b (k + 1) r.to ls ≡ refused n j → outcome b k station (row_text b r ∷ ls) ≡ refused n j
  one_more r k station ls n j row few e =
      let (alike, le) = ordered_alike b r.low r.high row.order in
      let said = row_read r.from r.to r.low r.high r.step row.from row.to b alike (omega (arith, le, row.far)) (omega (arith, row.far)) (omega (arith, row.turn)) in
      let ranged = in_range_lem k r.low r.high r.step few (omega (arith, le, row.far)) row.far row.turn in
      outcome_yes b k station (row_text b r) ls (ap (refusal k station) said ∙ leg_0 k station _ _ _ _ _ ranged le row.next)
      ∙ ap (λ (x : Said). onward k x ls (outcome b (k + 1) (station_after x) ls)) said
      ∙ ap (onto (span_in r)) e

  after_rows : (rows : List Row) (k : ℕ) (station : List ℕ) (ls : List (List ℕ)) (n j : ℕ) → Linked b station rows → k + length rows ≤ last_line + 1
      → outcome b (k + length rows) (station_of station rows) ls ≡ refused n j → outcome b k station (map (row_text b) rows ++ ls) ≡ refused n j
  unfolding Linked station_of
  after_rows [] k station ls n j h few e = rw (add-zero k) at e
  after_rows (r ∷ rows) k station ls n j (row, h) few e =
      let i : k + suc (length rows) ≡ k + 1 + length rows = omega arith in
      one_more r k station (map (row_text b) rows ++ ls) n j row (omega (arith, few))
      (after_rows rows (k + 1) r.to ls n j h (omega (arith, few)) (subst (λ (m : ℕ). outcome b m (station_of r.to rows) ls ≡ refused n j) i e))

  module _ (text : List ℕ) (rows : List Row) where
    from_header : (ls : List (List ℕ)) (n j : ℕ) → Begins b text rows ls → outcome b (2 + length rows) (station_of [] rows) ls ≡ refused n j
        → listing_of b text ≡ refused n j
    unfolding listing_of headed
    from_header ls n j h e =
        rw (h.begins, header_read b) (after_rows rows 2 [] ls n j h.linked (omega (arith, h.few)) e)

    pub first_bad_lem : (l : List ℕ) (ls : List (List ℕ)) → Begins b text rows (l ∷ ls)
        → (refusal (2 + length rows) (station_of [] rows) (read_entry b l) ≡ 0 → ⊥)
        → listing_of b text ≡ refused (refusal (2 + length rows) (station_of [] rows) (read_entry b l)) (2 + length rows)
    first_bad_lem l ls h bad = from_header (l ∷ ls) _ _ h (outcome_no b (2 + length rows) (station_of [] rows) l ls bad)

    pub missing_line : Begins b text rows [] → listing_of b text ≡ refused 6 (2 + length rows)
    unfolding outcome
    missing_line h = from_header [] _ _ h refl

    pub line_after : (l : List ℕ) (ls : List (List ℕ)) → Begins b text rows (end_row (length rows) ∷ l ∷ ls) → listing_of b text ≡ refused 6 (3 + length rows)
    unfolding no_lines
    line_after l ls h =
        let said = end_read (length rows) b (omega (arith, h.few)) in
        let k : 2 + length rows + 1 ≡ 3 + length rows = omega arith in
        from_header (end_row (length rows) ∷ l ∷ ls) _ _ h
        (outcome_yes b (2 + length rows) (station_of [] rows) (end_row (length rows)) (l ∷ ls)
        (ap (refusal (2 + length rows) (station_of [] rows)) said ∙ last_0 (2 + length rows) (station_of [] rows) (length rows) (omega arith))
        ∙ ap (λ (x : Said). onward (2 + length rows) x (l ∷ ls) (outcome b (2 + length rows + 1) (station_after x) (l ∷ ls))) said
        ∙ ap (refused 6) k)

  pub no_text : listing_of b [] ≡ refused 6 1
  unfolding listing_of headed lines
  no_text = refl

  pub no_header : (text l : List ℕ) (ls : List (List ℕ)) → lines text ≡ l ∷ ls → (l ≡ header_of b → ⊥) → listing_of b text ≡ refused 6 1
  unfolding listing_of headed
  no_header text l ls e other = rw e (by_test (is_header b l) refl)
    where
      by_test : (t : Bool) → is_header b l ≡ t → cond t (outcome b 2 [] ls) (refused 6 1) ≡ refused 6 1
      by_test true h = absurd (other (header_is b l h))
      by_test false h = refl
