-- Listings as lists of rows: they are accepted just where the rows are linked.
use Prim.Native.Nat.{ℕ, suc, ◌+◌, ◌-◌, ◌*◌, ◌≤◌, ◌<◌}
use native.Mathlib.Omega.{arith}
use native.Mathlib.Nat.{mul-le-mul_left}
use mathlib.Core.Path.{◌≡◌, refl, sym, ap, ap₂, subst, ◌∙◌}
use mathlib.Core.Bool.{Bool, true, false, cond}
use mathlib.Core.List.{List, [], ◌∷◌, ◌++◌, append_assoc, append-nil}
use lib.Dec.{eqb}
use lib.ListN.{length, length-append, length-map}
use borrow.Author.Tests.{eqb-true, eqb-false}
use Rattle.text.specs.Limits.{decimal_bound}
use Rattle.text.specs.Fields.{name, decimal}
use Rattle.text.specs.Scan.{lines}
use Rattle.text.specs.Forms.{is_empty, print_form}
use Rattle.text.specs.Theorems.{join}
use Rattle.text.proofs.Split.{join_lines}
use Rattle.text.proofs.Decimal.{decimal_length}
use Rattle.text.proofs.Plain.{name_length_lem}
use Rattle.listing_rows.specs.Rows.{end_row, header_of, row_form, row_of}
use Rattle.listing_rows.proofs.Rows.{row_length, end_length}
use Rattle.noisy_shot.specs.Shots.{Shot}
use Rattle.sums.specs.Sums.{most_shots, most_distance}
use Rattle.sums.specs.Spans.{Span, Chosen, low_shots, Ranged, EqualReadings}
use Rattle.listing_rows.specs.Entries.{is_header, Said, leg, last, neither, read_entry}
use Rattle.listing_rows.proofs.RoundTrip.{Alike, row_line, row_read, end_line, end_said, end_read, header_line, header_lengths, header_read, header_is, Printed, entry_printed}
use Rattle.job_lines.specs.Links.{follows}
use Rattle.misclosure.specs.Misclosure.{last_line, most_step, refusal, Outcome, refused, accepted, onto, no_lines, station_after, onward, outcome, headed, listing_of}
use Rattle.misclosure.specs.Theorems.{Row, Ordered, span_in, spans_in, row_text, rows_text, text_of, LinkedRow, Linked, EqualRows, SayAlike, ListAlike, chosen_rows, longest_row, longest_listing}
use Rattle.misclosure.proofs.Lines.{in_range_lem, leg_0, last_0, leg_within, last_count}
use Rattle.misclosure.proofs.Going.{outcome_yes, outcome_no}

-- ---- from rows to a listing

-- one distance is both, two are in order
pub ordered_alike : (b : Bool) (low high : ℕ) → Ordered b low high → Alike b low high × (low ≤ high)
ordered_alike true low high h = (tt, h)
ordered_alike false low high h = (h, omega (arith, h))

alike_ordered : (b : Bool) (low high : ℕ) → Alike b low high → low ≤ high → Ordered b low high
alike_ordered true low high a h = h
alike_ordered false low high a h = a

-- a shot whose row is printed, an accepted shot, and an accepted end
pub outcome_row : (b : Bool) (k : ℕ) (station f t : List ℕ) (m n s : ℕ) (rest : List ℕ) → name f ≡ true → name t ≡ true → m < decimal_bound → n < decimal_bound
    → s < decimal_bound → Alike b m n → outcome b k station (lines (row_of b f t m n s ++ rest)) ≡ cond (eqb (refusal k station (leg f t m n s)) 0)
    (onto (record { low = m; high = n; step = s }) (outcome b (k + 1) t (lines rest)))
    (refused (refusal k station (leg f t m n s)) k)
unfolding outcome
outcome_row b k station f t m n s rest hf ht hm hn hs alike =
    ap (outcome b k station) (row_line f t m n s hf ht b rest)
    ∙ ap (λ (x : Said). cond (eqb (refusal k station x) 0) (onward k x (lines rest) (outcome b (k + 1) (station_after x) (lines rest))) (refused (refusal k station x) k))
    (row_read f t m n s hf ht b alike hm hn hs)

pub outcome_leg : (b : Bool) (k : ℕ) (station f t : List ℕ) (m n s : ℕ) (rest : List ℕ) → name f ≡ true → name t ≡ true → k ≤ last_line → n ≤ most_distance → s ≤ most_step
    → Ordered b m n → follows station f ≡ true
    → outcome b k station (lines (row_of b f t m n s ++ rest)) ≡ onto (record { low = m; high = n; step = s }) (outcome b (k + 1) t (lines rest))
outcome_leg b k station f t m n s rest hf ht few far turn order next =
    let (alike, le) = ordered_alike b m n order in
    outcome_row b k station f t m n s rest hf ht (omega (arith, le, far)) (omega (arith, far)) (omega (arith, turn)) alike
    ∙ rw (leg_0 k station f t m n s (in_range_lem k m n s few (omega (arith, le, far)) far turn) le next)

pub outcome_end : (b : Bool) (k : ℕ) (station : List ℕ) (n : ℕ) → k ≤ last_line + 1 → n ≡ k - 2 → outcome b k station (lines (end_row n)) ≡ accepted []
unfolding no_lines lines
outcome_end b k station n few e =
    let r = end_read n b (omega (arith, e)) in
    ap (λ (l : List ℕ). outcome b k station (lines l)) (sym (append-nil (end_row n)))
    ∙ ap (outcome b k station) (end_line n [])
    ∙ outcome_yes b k station (end_row n) (lines []) (ap (refusal k station) r ∙ last_0 k station n e)
    ∙ ap (λ (x : Said). onward k x (lines []) (outcome b (k + 1) (station_after x) (lines []))) r

outcome_linked : (b : Bool) (rows : List Row) (k n : ℕ) (station : List ℕ) → Linked b station rows → 2 ≤ k → k + length rows ≤ last_line + 1 → n ≡ k + length rows - 2
    → outcome b k station (lines (rows_text b rows ++ end_row n)) ≡ accepted (spans_in rows)
unfolding Linked rows_text
outcome_linked b [] k n station h low few e = outcome_end b k station n (omega (arith, few)) (omega (arith, e))
outcome_linked b (r ∷ rows) k n station (row, h) low few e =
    ap (λ (l : List ℕ). outcome b k station (lines l)) (append_assoc (row_text b r) (rows_text b rows) (end_row n))
    ∙ outcome_leg b k station r.from r.to r.low r.high r.step (rows_text b rows ++ end_row n) row.from row.to (omega (arith, few)) row.far row.turn row.order row.next
    ∙ ap (onto (span_in r)) (outcome_linked b rows (k + 1) n r.to h (omega arith) (omega (arith, few)) (omega (arith, e)))

-- the header before its lines
pub listing_headed : (b : Bool) (rest : List ℕ) → listing_of b (header_of b ++ rest) ≡ outcome b 2 [] (lines rest)
unfolding listing_of headed
listing_headed b rest = rw (header_line b rest, header_read b)

pub linked_accepted : (b : Bool) (rows : List Row) → Linked b [] rows → length rows ≤ most_shots → listing_of b (text_of b rows) ≡ accepted (spans_in rows)
unfolding text_of
linked_accepted b rows h few =
    listing_headed b (rows_text b rows ++ end_row (length rows))
    ∙ outcome_linked b rows 2 (length rows) [] h (omega arith) (omega arith) (omega arith)

-- ---- from a listing to rows

refused_not_accepted : (n k : ℕ) (l : List Span) → refused n k ≡ accepted l → ⊥
refused_not_accepted n k l e = let z : ◌≡◌ {A = ℕ} 0 1 = cc in omega arith

accepted_same : (l m : List Span) → accepted l ≡ accepted m → l ≡ m
accepted_same l m e = cc

onto_inverse : (s : Span) (o : Outcome) (l : List Span) → onto s o ≡ accepted l → (m : List Span) × (o ≡ accepted m) × (s ∷ m ≡ l)
onto_inverse s (refused n k) l e = absurd (refused_not_accepted n k l e)
onto_inverse s (accepted m) l e = (m, refl, accepted_same (s ∷ m) l e)

-- what accepted lines are
record Lists (b : Bool) (k : ℕ) (station : List ℕ) (ls : List (List ℕ)) (l : List Span) : Type 0 where
  rows : List Row
  linked : Linked b station rows
  few : k + length rows ≤ last_line + 1
  same : rows_text b rows ++ end_row (k + length rows - 2) ≡ join ls
  shots : spans_in rows ≡ l

end_lists : (b : Bool) (k n : ℕ) (station line : List ℕ) (ls : List (List ℕ)) (l : List Span) → k ≤ last_line + 1 → n ≡ k - 2 → line ≡ end_row n
    → cond (no_lines ls) (accepted []) (refused 6 (k + 1)) ≡ accepted l → Lists b k station (line ∷ ls) l
unfolding no_lines join Linked rows_text
end_lists b k n station line [] l few count e o =
    let i : k + 0 - 2 ≡ n = omega (arith, count) in
    record {
      rows = [];
      linked = tt;
      few = omega arith;
      same = ap end_row i ∙ sym e ∙ sym (append-nil line);
      shots = accepted_same [] l o;
    }
end_lists b k n station line (m ∷ ls) l few count e o = absurd (refused_not_accepted 6 (k + 1) l o)

leg_lists : (b : Bool) (k : ℕ) (station line f t : List ℕ) (m n s : ℕ) (ls : List (List ℕ)) (l : List Span) → refusal k station (leg f t m n s) ≡ 0
    → Printed b line (leg f t m n s) → (rest : List Span) → record { low = m; high = n; step = s } ∷ rest ≡ l → Lists b (k + 1) t ls rest
    → Lists b k station (line ∷ ls) l
unfolding join Linked rows_text
leg_lists b k station line f t m n s ls l h (hf, ht, hm, hn, hs, alike, printed) rest e r =
    let (few, far, turn, order, next) = leg_within k station f t m n s h in
    let i : k + suc (length r.rows) - 2 ≡ k + 1 + length r.rows - 2 = omega arith in
    record {
      rows = record { from = f; to = t; low = m; high = n; step = s } ∷ r.rows;
      linked = (record { from = hf; to = ht; far = far; order = alike_ordered b m n alike order; turn = turn; next = next }, r.linked);
      few = omega (arith, r.few);
      same = append_assoc (row_of b f t m n s) (rows_text b r.rows) _
          ∙ ap₂ (λ (a b : List ℕ). a ++ b) (sym printed) (ap (λ (n : ℕ). rows_text b r.rows ++ end_row n) i ∙ r.same);
      shots = ap (λ (x : List Span). record { low = m; high = n; step = s } ∷ x) r.shots ∙ e;
    }

lines_lists : (b : Bool) (ls : List (List ℕ)) (k : ℕ) (station : List ℕ) (l : List Span) → 2 ≤ k → k ≤ last_line + 1 → outcome b k station ls ≡ accepted l
    → Lists b k station ls l
unfolding outcome
lines_lists b [] k station l low few o = absurd (refused_not_accepted 6 k l o)
lines_lists b (line ∷ ls) k station l low few o = go (λ t m. lines_lists b ls (k + 1) t m) (eqb (refusal k station (read_entry b line)) 0) refl
  where
    on : ((t : List ℕ) (m : List Span) → 2 ≤ k + 1 → k + 1 ≤ last_line + 1 → outcome b (k + 1) t ls ≡ accepted m → Lists b (k + 1) t ls m) → (x : Said)
        → refusal k station x ≡ 0 → Printed b line x → onward k x ls (outcome b (k + 1) (station_after x) ls) ≡ accepted l → Lists b k station (line ∷ ls) l
    on ih (leg f t m n s) h p o =
        let (rest, e, same) = onto_inverse (record { low = m; high = n; step = s }) (outcome b (k + 1) t ls) l o in
        let few = (leg_within k station f t m n s h).0 in
        leg_lists b k station line f t m n s ls l h p rest same (ih t rest (omega arith) (omega arith) e)
    on ih (last n) h p o = end_lists b k n station line ls l few (last_count k station n h) p.1 o
    on ih neither h p o = absurd (refused_not_accepted 6 k l o)

    go : ((t : List ℕ) (m : List Span) → 2 ≤ k + 1 → k + 1 ≤ last_line + 1 → outcome b (k + 1) t ls ≡ accepted m → Lists b (k + 1) t ls m)
        → (c : Bool) → eqb (refusal k station (read_entry b line)) 0 ≡ c → Lists b k station (line ∷ ls) l
    go ih true t =
        let h = eqb-true (refusal k station (read_entry b line)) 0 t in
        on ih (read_entry b line) h (entry_printed b line) (sym (outcome_yes b k station line ls h) ∙ o)
    go ih false t = absurd (refused_not_accepted _ k l (sym (outcome_no b k station line ls (eqb-false (refusal k station (read_entry b line)) 0 t)) ∙ o))

-- a listing with the rows that it is made of
abbrev pub Made : Bool → List ℕ → List Span → Type 0
Made b text l = (rows : List Row) × Linked b [] rows × (length rows ≤ most_shots) × (text_of b rows ≡ text) × (spans_in rows ≡ l)

headed_made : (b : Bool) (text line : List ℕ) (ls : List (List ℕ)) (l : List Span) → lines text ≡ line ∷ ls → line ≡ header_of b → Lists b 2 [] ls l → Made b text l
unfolding text_of join
headed_made b text line ls l t h r =
    let i : length r.rows ≡ 2 + length r.rows - 2 = omega arith in (
      r.rows,
      r.linked,
      omega (arith, r.few),
      ap₂ (λ (a b : List ℕ). a ++ b) (sym h) (ap (λ (n : ℕ). rows_text b r.rows ++ end_row n) i ∙ r.same) ∙ sym (ap join t) ∙ join_lines text,
      r.shots,
    )

pub accepted_linked : (b : Bool) (text : List ℕ) (l : List Span) → listing_of b text ≡ accepted l → Made b text l
unfolding listing_of headed
accepted_linked b text l e = by_lines (lines text) refl e
  where
    by_header : (line : List ℕ) (ls : List (List ℕ)) → lines text ≡ line ∷ ls → (c : Bool) → is_header b line ≡ c
        → cond c (outcome b 2 [] ls) (refused 6 1) ≡ accepted l → Made b text l
    by_header line ls t true h e = headed_made b text line ls l t (header_is b line h) (lines_lists b ls 2 [] l (omega arith) (omega arith) e)
    by_header line ls t false h e = absurd (refused_not_accepted 6 1 l e)

    by_lines : (ls : List (List ℕ)) → lines text ≡ ls → headed b ls ≡ accepted l → Made b text l
    by_lines [] t e = absurd (refused_not_accepted 6 1 l e)
    by_lines (line ∷ ls) t e = by_header line ls t (is_header b line) refl e

-- ---- its shots are few and not far, and of one distance their readings are equal

linked_ranged : (b : Bool) (rows : List Row) (station : List ℕ) → Linked b station rows → Ranged (spans_in rows)
unfolding Linked Ranged
linked_ranged b [] station h = tt
linked_ranged b (r ∷ rows) station (row, h) = ((ordered_alike b r.low r.high row.order).1, row.far, linked_ranged b rows r.to h)

linked_equal : (rows : List Row) (station : List ℕ) → Linked false station rows → EqualReadings (spans_in rows)
unfolding Linked EqualReadings
linked_equal [] station h = tt
linked_equal (r ∷ rows) station (row, h) = (row.order, linked_equal rows r.to h)

pub accepted_ranged : (b : Bool) (text : List ℕ) (l : List Span) → listing_of b text ≡ accepted l → (length l ≤ most_shots) × Ranged l
accepted_ranged b text l e =
    let (rows, linked, few, t, same) = accepted_linked b text l e in
    subst (λ (l : List Span). (length l ≤ most_shots) × Ranged l) same (omega (arith, few, length-map rows span_in), linked_ranged b rows [] linked)

pub accepted_equal : (text : List ℕ) (l : List Span) → listing_of false text ≡ accepted l → EqualReadings l
accepted_equal text l e =
    let (rows, linked, few, t, same) = accepted_linked false text l e in
    subst EqualReadings same (linked_equal rows [] linked)

-- ---- its length

span_row_length : (f t : List ℕ) (m n s : ℕ)
    → length (row_of true f t m n s) ≡ length f + length t + length (decimal m) + length (decimal n) + length (decimal s) + 5
unfolding row_of row_form print_form
span_row_length f t m n s = simp length-append (omega arith)

row_most : (b : Bool) (r : Row) (station : List ℕ) → LinkedRow b station r → length (row_text b r) ≤ longest_row b
unfolding row_of longest_row
row_most true r station row =
    omega (
      arith,
      span_row_length r.from r.to r.low r.high r.step,
      name_length_lem r.from row.from,
      name_length_lem r.to row.to,
      decimal_length 6 r.low (omega (arith, row.far, row.order)),
      decimal_length 6 r.high (omega (arith, row.far)),
      decimal_length 4 r.step (omega (arith, row.turn)),
    )
row_most false r station row =
    omega (
      arith,
      row_length r.from r.to r.low r.step,
      name_length_lem r.from row.from,
      name_length_lem r.to row.to,
      decimal_length 6 r.low (omega (arith, row.far, row.order)),
      decimal_length 4 r.step (omega (arith, row.turn)),
    )

rows_most : (b : Bool) (rows : List Row) (station : List ℕ) → Linked b station rows → length (rows_text b rows) ≤ longest_row b * length rows
unfolding Linked rows_text
rows_most b [] station h = omega arith
rows_most b (r ∷ rows) station (row, h) =
    omega (
      arith,
      length-append (row_text b r) (rows_text b rows),
      row_most b r station row,
      rows_most b rows r.to h,
    )

header_most : (b : Bool) → length (header_of b) + longest_row b * most_shots + 8 ≤ longest_listing b
unfolding longest_row longest_listing
header_most true = omega (arith, header_lengths)
header_most false = omega (arith, header_lengths)

pub accepted_longest : (b : Bool) (text : List ℕ) (l : List Span) → listing_of b text ≡ accepted l → length text ≤ longest_listing b
unfolding text_of
accepted_longest b text l e =
    let (rows, linked, few, same, shots) = accepted_linked b text l e in
    omega (
      arith,
      ap length same,
      length-append (header_of b) (rows_text b rows ++ end_row (length rows)),
      length-append (rows_text b rows) (end_row (length rows)),
      header_most b,
      end_length (length rows),
      decimal_length 2 (length rows) (omega arith),
      rows_most b rows [] linked,
      mul-le-mul_left (longest_row b) few,
    )

-- ---- joined runs

pub linked_first : (b : Bool) (first second : List Row) (station : List ℕ) → Linked b station (first ++ second) → Linked b station first
unfolding Linked
linked_first b [] second station h = tt
linked_first b (r ∷ first) second station (row, h) = (row, linked_first b first second r.to h)

-- any station will do for a first shot
linked_anew : (b : Bool) (rows : List Row) (station : List ℕ) → Linked b station rows → Linked b [] rows
unfolding Linked follows is_empty
linked_anew b [] station h = tt
linked_anew b (r ∷ rows) station (row, h) =
    (record { from = row.from; to = row.to; far = row.far; order = row.order; turn = row.turn; next = refl }, h)

pub linked_second : (b : Bool) (first second : List Row) (station : List ℕ) → Linked b station (first ++ second) → Linked b [] second
unfolding Linked
linked_second b [] second station h = linked_anew b second station h
linked_second b (r ∷ first) second station (row, h) = linked_second b first second r.to h

-- ---- one listing of either kind, where low equals high throughout

onward_alike : (k : ℕ) (x : Said) (ls ms : List (List ℕ)) (o : Outcome) → SayAlike ls ms → onward k x ls o ≡ onward k x ms o
unfolding SayAlike no_lines
onward_alike k (leg from to low high step) ls ms o h = refl
onward_alike k (last count) [] [] o h = refl
onward_alike k (last count) [] (m ∷ ms) o h = absurd h
onward_alike k (last count) (l ∷ ls) [] o h = absurd h
onward_alike k (last count) (l ∷ ls) (m ∷ ms) o h = refl
onward_alike k neither ls ms o h = refl

outcome_alike : (ls ms : List (List ℕ)) → SayAlike ls ms → (k : ℕ) (station : List ℕ) → outcome true k station ms ≡ outcome false k station ls
unfolding SayAlike outcome
outcome_alike [] [] h k station = refl
outcome_alike [] (m ∷ ms) h k station = absurd h
outcome_alike (l ∷ ls) [] h k station = absurd h
outcome_alike (l ∷ ls) (m ∷ ms) (same, h) k station =
    let x = read_entry false l in
    let on : (o : Outcome) → Outcome = λ o. cond (eqb (refusal k station x) 0) o (refused (refusal k station x) k) in
    ap (λ (y : Said). cond (eqb (refusal k station y) 0) (onward k y ms (outcome true (k + 1) (station_after y) ms)) (refused (refusal k station y) k)) (sym same)
    ∙ ap (λ (o : Outcome). on (onward k x ms o)) (outcome_alike ls ms h (k + 1) (station_after x))
    ∙ ap on (sym (onward_alike k x ls ms (outcome false (k + 1) (station_after x) ls) h))

headed_alike : (ls ms : List (List ℕ)) → ListAlike ls ms → headed true ms ≡ headed false ls
unfolding ListAlike headed
headed_alike [] [] h = refl
headed_alike [] (m ∷ ms) h = absurd h
headed_alike (l ∷ ls) [] h = absurd h
headed_alike (l ∷ ls) (m ∷ ms) (same, h) =
    ap₂ (λ (b : Bool) (o : Outcome). cond b o (refused 6 1)) (sym same) (outcome_alike ls ms h 2 [])

pub lines_outcome : (one two : List ℕ) → ListAlike (lines one) (lines two) → listing_of true two ≡ listing_of false one
unfolding listing_of
lines_outcome one two h = headed_alike (lines one) (lines two) h

-- rows with low equal to high, and the end, say the same
rows_alike : (n : ℕ) (rows : List Row) → EqualRows rows → SayAlike (lines (rows_text false rows ++ end_row n)) (lines (rows_text true rows ++ end_row n))
unfolding EqualRows rows_text SayAlike lines
rows_alike n [] h =
    let end : lines (end_row n) ≡ end_row n ∷ [] = ap lines (sym (append-nil (end_row n))) ∙ end_line n [] in
    rw end (end_said n false ∙ sym (end_said n true), tt)
rows_alike n (r ∷ rows) (hf, ht, hd, hs, same, h) =
    let far : r.high < decimal_bound = omega (arith, hd, same) in
    let by : (b : Bool) → lines (rows_text b (r ∷ rows) ++ end_row n) ≡ row_text b r ∷ lines (rows_text b rows ++ end_row n) =
    λ b. ap lines (append_assoc (row_text b r) (rows_text b rows) (end_row n))
    ∙ row_line r.from r.to r.low r.high r.step hf ht b (rows_text b rows ++ end_row n) in
    let read = row_read r.from r.to r.low r.high r.step hf ht in
    rw (by false, by true) (read false same hd far hs ∙ sym (read true tt hd far hs), rows_alike n rows h)

pub equal_outcome : (rows : List Row) → EqualRows rows → listing_of true (text_of true rows) ≡ listing_of false (text_of false rows)
unfolding text_of
equal_outcome rows h =
    listing_headed true (rows_text true rows ++ end_row (length rows))
    ∙ outcome_alike _ _ (rows_alike (length rows) rows h) 2 []
    ∙ sym (listing_headed false (rows_text false rows ++ end_row (length rows)))

-- ---- a choice as a listing of one distance each

pub chosen_linked : (rows : List Row) (c : List Shot) (station : List ℕ) → Linked true station rows → Chosen (spans_in rows) c
    → Linked false station (chosen_rows rows c) × (length (chosen_rows rows c) ≡ length rows) × (low_shots (spans_in (chosen_rows rows c)) ≡ c)
unfolding Linked Chosen chosen_rows
chosen_linked [] [] station h e = (tt, refl, refl)
chosen_linked [] (s ∷ c) station h e = absurd e
chosen_linked (r ∷ rows) [] station h e = absurd e
chosen_linked (r ∷ rows) (s ∷ c) station (row, h) (low, high, same, e) =
    let (linked, few, shots) = chosen_linked rows c r.to h e in (
      (record { from = row.from; to = row.to; far = omega (arith, high, row.far); order = refl; turn = row.turn; next = row.next }, linked),
      ap suc few,
      ap₂ (λ (d : ℕ) (l : List Shot). record { distance = s.distance; step = d } ∷ l) (sym same) shots,
    )
