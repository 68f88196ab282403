-- A listing half way: the shots so far, and what the lines ahead add to them.
use Prim.Native.Nat.{ℕ, ◌+◌}
use native.Mathlib.Omega.{arith}
use mathlib.Core.Path.{◌≡◌, refl, sym, ap, ap₂, subst, ◌∙◌}
use mathlib.Core.Bool.{Bool, true, false, cond, false≢true}
use mathlib.Core.List.{List, [], ◌∷◌, ◌++◌, map, map-append, append-nil}
use lib.IntN.{ℤ, pos}
use borrow.Author.Tests.{eq-eqb, ne_eqb}
use Rattle.text.specs.Scan.{lines}
use Rattle.sums.specs.Sums.{sine, cosine, total}
use Rattle.sums.specs.Spans.{Span, least_shot, greatest_shot}
use Rattle.sums.proofs.SumLaws.{total_more}
use Rattle.listing_rows.specs.Entries.{is_header, Said, leg, last, neither, read_entry}
use Rattle.misclosure.specs.Misclosure.{
  refusal,
  Outcome,
  refused,
  accepted,
  onto,
  no_lines,
  station_after,
  onward,
  outcome,
  headed,
  listing_of,
  both_ends,
  ends_of,
  headed_between,
  is_between,
}
use Rattle.misclosure.specs.Private.{widened_by, Takes, Leads, number_of, onto_all, Going, refused_sums, end_sums, sums_of}
use Rattle.misclosure.specs.declared.Ends.{Ends}
use Rattle.misclosure.specs.declared.state.State.{State}
use Rattle.misclosure.specs.declared.walk.BadLine.{BadLine}
use Rattle.std.specs.Prelude.{Result, Ok, Err, Option, Some, None, MatchOption, MatchResult}
use Rattle.std.specs.Result.{is_ok, IsErrAnd}
use Rattle.std.specs.Iterator.{YieldsFirstRef}
use denote.Ref.{Bor}
use Rattle.text.specs.declared.line.Lines.{Lines}
use Rattle.misclosure.specs.declared.entry.Cause.{Cause}
use Rattle.misclosure.specs.declared.entry.Cause.TheVariants.{Misplaced, NotFollowing, BeyondLimit, LowAboveHigh}

-- no cause has the number 0
pub number_positive : (cause : Cause) → number_of cause ≡ 0 → ⊥
number_positive Misplaced e = omega (arith, e)
number_positive NotFollowing e = omega (arith, e)
number_positive BeyondLimit e = omega (arith, e)
number_positive LowAboveHigh e = omega (arith, e)

-- ---- shots in front of an outcome

pub onto_more : (l : List Span) (s : Span) (o : Outcome) → onto_all (l ++ (s ∷ [])) o ≡ onto_all l (onto s o)
unfolding onto_all
onto_more [] s o = refl
onto_more (x ∷ l) s o = ap (onto x) (onto_more l s o)

pub onto_refused : (l : List Span) (n k : ℕ) → onto_all l (refused n k) ≡ refused n k
unfolding onto_all
onto_refused [] n k = refl
onto_refused (x ∷ l) n k = ap (onto x) (onto_refused l n k)

pub onto_accepted : (l m : List Span) → onto_all l (accepted m) ≡ accepted (l ++ m)
unfolding onto_all
onto_accepted [] m = refl
onto_accepted (x ∷ l) m = ap (onto x) (onto_accepted l m)

-- one shot more at the end
ends_more : (G : ℕ → ℤ) (l : List Span) (p : Span) → widened_by (G p.step) p.low p.high (ends_of G l) ≡ ends_of G (l ++ (p ∷ []))
ends_more G l p =
    ap₂ (λ (x y : ℤ). record { low = x; high = y })
    (sym (ap (total G) (map-append (least_shot G) l (p ∷ [])) ∙ total_more G (map (least_shot G) l) (least_shot G p)))
    (sym (ap (total G) (map-append (greatest_shot G) l (p ∷ [])) ∙ total_more G (map (greatest_shot G) l) (greatest_shot G p)))

-- one line of the definition, accepted or refused
module _ (b : Bool) (k : ℕ) (station l : List ℕ) (ls : List (List ℕ)) where
  pub outcome_yes : refusal k station (read_entry b l) ≡ 0
      → outcome b k station (l ∷ ls) ≡ onward k (read_entry b l) ls (outcome b (k + 1) (station_after (read_entry b l)) ls)
  unfolding outcome
  outcome_yes h = rw (eq-eqb (refusal k station (read_entry b l)) 0 h, outcome)

  pub outcome_no : (refusal k station (read_entry b l) ≡ 0 → ⊥) → outcome b k station (l ∷ ls) ≡ refused (refusal k station (read_entry b l)) k
  unfolding outcome
  outcome_no h = rw (ne_eqb (refusal k station (read_entry b l)) 0 h, outcome)

-- the start, after the header
pub going_start : (b : Bool) (all : List (List ℕ)) (line : ℕ) (station : List ℕ) (east north : Ends) → line ≡ 2 → station ≡ [] → east ≡ both_ends (pos 0)
    → north ≡ both_ends (pos 0) → Going b all all line station east north
unfolding onto_all total
going_start b all line station east north e first none_east none_north = record {
  done = [];
  after_header = omega (arith, e);
  few = omega (arith, e);
  sizes = rw (none_east, none_north) ((omega arith, omega arith), (omega arith, omega arith));
  sines = none_east;
  cosines = none_north;
  so_far = rw (e, first) refl;
}

-- the header: the text's first line
module _ (b : Bool) (text header : List ℕ) (rest : List (List ℕ)) (e : lines text ≡ header ∷ rest) where
  pub header_on : is_header b header ≡ true → listing_of b text ≡ outcome b 2 [] rest
  unfolding listing_of headed
  header_on h = rw (e, h)

  pub header_off : is_header b header ≡ false → listing_of b text ≡ refused 6 1
  unfolding listing_of headed
  header_off h = rw (e, h)

  header_tells : is_header true header ≡ is_between text
  unfolding is_between headed_between
  header_tells = rw e

module _ (text : List ℕ) (e : lines text ≡ []) where
  pub no_header : (b : Bool) → listing_of b text ≡ refused 6 1
  unfolding listing_of headed
  no_header b = rw e

  none_told : false ≡ is_between text
  unfolding is_between headed_between
  none_told = rw e

-- what the lines that are left give
module _ (s t : Lines) where
  pub none_left : (r : Option (Bor (List ℕ))) → YieldsFirstRef (λ (l : Lines). lines l.rest.now) s r t → ((x : Bor (List ℕ)) → r ≡ Some x → ⊥) → lines s.rest.now ≡ []
  none_left (Some x) h n = absurd (n x refl)
  none_left None h n = h.0

  -- whether the first of them is that header
  pub header_told : (text : List ℕ) → lines s.rest.now ≡ lines text → {b : Bool} {P : Bor (List ℕ) → Type 0} (r : Option (Bor (List ℕ)))
      → YieldsFirstRef (λ (l : Lines). lines l.rest.now) s r t → MatchOption r (b ≡ false) P → ((x : Bor (List ℕ)) → P x → b ≡ is_header true x.now)
      → b ≡ is_between text
  header_told text e (Some x) steps h told = told x h ∙ header_tells true text x.now _ (sym e ∙ steps)
  header_told text e None steps h told = h ∙ none_told text (sym e ∙ steps.0)

-- ---- one round of the loop

cause_alone : {A : Type 0} → Result A BadLine → Result A Cause
cause_alone (Ok x) = Ok x
cause_alone (Err bad) = Err bad.cause

-- a line that is accepted
pub line_accepted : {A : Type 0} (P : Cause → BadLine → Type 0) (r : Result A Cause) (m : Result A BadLine) (x : A) → m ≡ Ok x
    → MatchResult r (λ x. m ≡ Ok x) (λ cause. IsErrAnd m (P cause)) → r ≡ Ok x
unfolding cause_alone
line_accepted P (Ok y) m x is h = ap cause_alone (sym h ∙ is)
line_accepted {A} P (Err cause) m x is h = absurd (subst (λ (m : Result A BadLine). IsErrAnd m (P cause)) is h)

module _ {b : Bool} {all ls rest : List (List ℕ)} (s : State) {row : List ℕ} (g : Going b all ls s.line s.station.now s.east s.north) (e : ls ≡ row ∷ rest) where
  so_far : outcome b 2 [] all ≡ onto_all g.done (outcome b s.line s.station.now (row ∷ rest))
  so_far = g.so_far ∙ ap (λ (ls : List (List ℕ)). onto_all g.done (outcome b s.line s.station.now ls)) e

  line_off : (cause : Cause) → Takes row s (read_entry b row) (Err cause) → outcome b 2 [] all ≡ refused (number_of cause) s.line
  line_off cause t =
      so_far
      ∙ ap (onto_all g.done) (outcome_no b s.line s.station.now row rest (λ u. number_positive cause (t.code ∙ u)))
      ∙ onto_refused g.done _ _ ∙ ap (λ (n : ℕ). refused n s.line) (sym t.code)

  -- a line that is refused: its cause, and the line's number
  pub line_refused : (P : Cause → BadLine → Type 0) (r : Result (Option State) Cause) (m : Result (Option State) BadLine) (bad : BadLine)
      → Takes row s (read_entry b row) r → m ≡ Err bad → MatchResult r (λ x. m ≡ Ok x) (λ cause. IsErrAnd m (P cause))
      → ((cause : Cause) → P cause bad → bad ≡ record { cause = cause; line = s.line })
      → refused_sums (number_of bad.cause) bad.line ≡ sums_of (outcome b 2 [] all)
  line_refused P (Ok x) m bad t is h told = absurd (false≢true (sym (ap is_ok (sym h ∙ is))))
  line_refused P (Err cause) m bad t is h told =
      rw (told cause (subst (λ (m : Result (Option State) BadLine). IsErrAnd m (P cause)) is h), line_off cause t) refl

  onward_from : 0 ≡ refusal s.line s.station.now (read_entry b row) → outcome b 2 [] all
      ≡ onto_all g.done (onward s.line (read_entry b row) rest (outcome b (s.line + 1) (station_after (read_entry b row)) rest))
  onward_from z = so_far ∙ ap (onto_all g.done) (outcome_yes b s.line s.station.now row rest (sym z))

  pub line_on : (next : State) → Takes row s (read_entry b row) (Ok (Some next)) → Going b all rest next.line next.station.now next.east next.north
  line_on next t = go (read_entry b row) (sym t.code) t.next (onward_from t.code)
    where
      go : (x : Said) → refusal s.line s.station.now x ≡ 0 → Leads x s (Some next)
          → outcome b 2 [] all ≡ onto_all g.done (onward s.line x rest (outcome b (s.line + 1) (station_after x) rest))
          → Going b all rest next.line next.station.now next.east next.north
      go (leg from to low high step) n l o =
          let shot : Span = record { low = low; high = high; step = step } in
          record {
            done = g.done ++ (shot ∷ []);
            after_header = next.after_header;
            few = next.few;
            sizes = (next.east_size, next.north_size);
            sines = l.east ∙ ap (widened_by (sine step) low high) g.sines ∙ ends_more sine g.done shot;
            cosines = l.north ∙ ap (widened_by (cosine step) low high) g.cosines ∙ ends_more cosine g.done shot;
            so_far = o ∙ sym (onto_more g.done shot _)
                ∙ ap₂ (λ (k : ℕ) (st : List ℕ). onto_all (g.done ++ (shot ∷ [])) (outcome b k st rest)) (sym l.line) (sym l.station);
          }
      go (last count) n l o = absurd l
      go neither n l o = absurd l

  pub line_last : Takes row s (read_entry b row) (Ok None) → sums_of (outcome b 2 [] all) ≡ end_sums s rest
  unfolding no_lines
  line_last t = go (read_entry b row) t.next (onward_from t.code)
    where
      by_rest : (r : List (List ℕ)) → sums_of (onto_all g.done (cond (no_lines r) (accepted []) (refused 6 (s.line + 1)))) ≡ end_sums s r
      by_rest [] = rw (onto_accepted g.done [], append-nil g.done, g.sines, g.cosines)
      by_rest (l ∷ r) = rw (onto_refused g.done 6 (s.line + 1))

      go : (x : Said) → Leads x s None
          → outcome b 2 [] all ≡ onto_all g.done (onward s.line x rest (outcome b (s.line + 1) (station_after x) rest))
          → sums_of (outcome b 2 [] all) ≡ end_sums s rest
      go (leg from to low high step) l o = absurd l
      go (last count) l o = ap sums_of o ∙ by_rest rest
      go neither l o = absurd l

-- no line is left: the next one is missing
pub all_taken : {b : Bool} {all : List (List ℕ)} {line : ℕ} {station : List ℕ} {east north : Ends} → Going b all [] line station east north
    → outcome b 2 [] all ≡ refused 6 line
unfolding outcome
all_taken {line = line} g = g.so_far ∙ onto_refused g.done 6 line

-- ---- what is returned

pub refused_sums_lem : (o : Outcome) (n k : ℕ) → o ≡ refused n k → refused_sums n k ≡ sums_of o
refused_sums_lem o n k e = rw e refl
