-- The theorems of specs/Theorems.antt.
use Prim.Native.Nat.{ℕ, ◌+◌, ◌*◌, ◌≤◌, ◌<◌}
use native.Mathlib.Omega.{arith}
use mathlib.Core.Path.{◌≡◌, refl, sym, ap, subst, ◌∙◌}
use mathlib.Core.Bool.{Bool, true, false, cond, and-eq-true_iff, false≢true}
use mathlib.Core.List.{List, [], ◌∷◌, ◌++◌, map, head-eq_of_cons-eq, tail-eq_of_cons-eq}
use mathlib.Core.Option.{Option, some, none}
use lib.ListN.{length, get_or, drop, length-append}
use borrow.Author.Tests.{le-leb, le-ltb}
use Rattle.text.specs.Ascii.{ascii}
use Rattle.text.specs.Scan.{lines}
use Rattle.text.specs.Fields.{decimal}
use Rattle.text.specs.Forms.{mark, marks, print_form, read_form}
use Rattle.text.proofs.Decimal.{decimal_length}
use Rattle.text.proofs.Forms.{print_mark, print_byte, unmarked, printed_read as form-printed}
use Rattle.job_lines.specs.Forms.{Form, seeds, sigma, shot, no_form, seeds_form, sigma_form, read_line, print_line, Printable}
use Rattle.job_lines.proofs.RoundTrip.{read_printed, printed_read}
use Rattle.job.specs.Limits.{listing_room}
use Rattle.job_reader.specs.Limits.{most_bytes, most_shots, last_line, most_distance, most_bearing}
use Rattle.job_reader.specs.Refusals.{formless, misplaced, too_many, beyond, seed_code, refusal}
use Rattle.job.specs.Job.{refused, listed, job_of, answer_of}
use Rattle.job.specs.Theorems.{text_of, Accepts}
use Rattle.job.proofs.Jobs.{line_printed, not_no_form, refused_not_listed, onto_listed, bytes_same}
use Rattle.job.proofs.Theorems as job-theorems
use Rattle.survex_reader.specs.Lines.{left_of, fed, remains}
use Rattle.survex_reader.specs.Legs.{Said, leg, wrong, words, read_leg}
use Rattle.survex_reader.proofs.Facts.{leg_facts}
use Rattle.job_lines.proofs.ShotLines.{shot_length}
use Rattle.survex.specs.Survex.{data_form, found, is_data, leg_line, on_leg, legs_from, survex_from, survex_of}
use Rattle.survex_reader.specs.LineTheorems.{remaining}
use Rattle.survex.specs.Theorems.{shot_of, shots_in, Fit, AllFit, FirstBad, Theorems}
use Rattle.text.proofs.Plain.{name_length_lem}
use Rattle.survex.proofs.Refusals.{
  leg_21,
  leg_22,
  leg_0,
  leg_codes,
  survex_first,
  survex_tells,
  codes_length,
  survex_none,
  survex_data,
}

abbrev shots : List (List ℕ) → List Form
shots ls = map (λ l. shot_of (leg_line l)) ls

-- ---- The data line

no_fields : (vs : List (List ℕ)) → print_form data_form vs ≡ data_form
unfolding marks data_form
no_fields vs = (unmarked data_form vs refl).0

data_bytes : (l : List ℕ) → is_data l ≡ true → (fed l ≡ true) × (left_of l ≡ data_form)
unfolding is_data
data_bytes l h =
    let t = (and-eq-true_iff (fed l) (found (read_form data_form (left_of l)))).0 h in
    (t.0, go (read_form data_form (left_of l)) refl t.1)
  where
    go : (o : Option (List (List ℕ))) → read_form data_form (left_of l) ≡ o → found o ≡ true → left_of l ≡ data_form
    go none e f = absurd (false≢true f)
    go (some vs) e f = sym (form-printed data_form (left_of l) vs e) ∙ no_fields vs

-- ---- The legs and their shots

-- a leg that is read is a shot that a job takes
said_fit : (v : List (List ℕ)) (f t : List ℕ) (d b : ℕ) → read_leg v ≡ leg f t d b → Fit (shot f t d b)
unfolding Fit
said_fit v f t d b e = let h = leg_facts v f t d b e in (h.from, h.to, h.distance, omega (arith, h.bearing))

line_fit : (l : List ℕ) (f t : List ℕ) (d b : ℕ) → leg_line l ≡ leg f t d b → Fit (shot f t d b)
unfolding leg_line
line_fit l f t d b e = go (fed l) e
  where
    is_leg : Said → Bool
    is_leg (leg a b c d) = true
    is_leg (wrong n) = false

    go : (x : Bool) → cond x (read_leg (words (left_of l))) (wrong 21) ≡ leg f t d b → Fit (shot f t d b)
    go true e = said_fit (words (left_of l)) f t d b e
    go false e = absurd (false≢true (ap is_leg e))

-- what legs write, once they are accepted
legs_converted : (ls : List (List ℕ)) (k : ℕ) (bytes : List ℕ) → legs_from k ls ≡ listed bytes
    → (bytes ≡ text_of (shots (remaining ls))) × AllFit (shots (remaining ls))
unfolding legs_from remaining text_of AllFit shot_of
legs_converted [] k bytes e = (bytes_same bytes [] (sym e), tt)
legs_converted (l ∷ ls) k bytes e = go (remains l) refl (legs_converted ls (k + 1)) e
  where
    go : (x : Bool) → remains l ≡ x
        → ((b : List ℕ) → legs_from (k + 1) ls ≡ listed b → (b ≡ text_of (shots (remaining ls))) × AllFit (shots (remaining ls)))
        → cond x (on_leg k (leg_line l) (legs_from (k + 1) ls)) (legs_from (k + 1) ls) ≡ listed bytes
        → (bytes ≡ text_of (shots (cond x (l ∷ remaining ls) (remaining ls)))) × AllFit (shots (cond x (l ∷ remaining ls) (remaining ls)))
    go false p ih f = ih bytes f
    go true p ih f = said (leg_line l) refl f
      where
        said : (s : Said) → leg_line l ≡ s → on_leg k s (legs_from (k + 1) ls) ≡ listed bytes
            → (bytes ≡ text_of (shot_of (leg_line l) ∷ shots (remaining ls))) × AllFit (shot_of (leg_line l) ∷ shots (remaining ls))
        said (wrong n) q g = absurd (refused_not_listed n k bytes g)
        said (leg a b c d) q g =
            let (r, i, j) = onto_listed (print_line (shot a b c d)) (legs_from (k + 1) ls) bytes g in
            let h = ih r i in
            rw q (j ∙ ap (λ (m : List ℕ). print_line (shot a b c d) ++ m) h.0, (line_fit l a b c d q, h.1))

-- and the other way round
legs_accepted : (ls : List (List ℕ)) (k : ℕ) → AllFit (shots (remaining ls)) → legs_from k ls ≡ listed (text_of (shots (remaining ls)))
unfolding legs_from remaining text_of AllFit shot_of Fit
legs_accepted [] k h = refl
legs_accepted (l ∷ ls) k h = go (remains l) (legs_accepted ls (k + 1)) h
  where
    go : (x : Bool) → (AllFit (shots (remaining ls)) → legs_from (k + 1) ls ≡ listed (text_of (shots (remaining ls))))
        → AllFit (shots (cond x (l ∷ remaining ls) (remaining ls)))
        → cond x (on_leg k (leg_line l) (legs_from (k + 1) ls)) (legs_from (k + 1) ls) ≡ listed (text_of (shots (cond x (l ∷ remaining ls) (remaining ls))))
    go false ih f = ih f
    go true ih f = said (leg_line l) f.0
      where
        said : (s : Said) → Fit (shot_of s) → on_leg k s (legs_from (k + 1) ls) ≡ listed (print_line (shot_of s) ++ text_of (shots (remaining ls)))
        said (wrong n) g = absurd g
        said (leg a b c d) g = rw (ih f.1)

survex_converted : (ls : List (List ℕ)) (k : ℕ) (bytes : List ℕ) → survex_from k ls ≡ listed bytes
    → (bytes ≡ text_of (shots (drop 1 (remaining ls)))) × AllFit (shots (drop 1 (remaining ls)))
unfolding survex_from remaining
survex_converted [] k bytes e = absurd (refused_not_listed 21 k bytes e)
survex_converted (l ∷ ls) k bytes e = go (remains l) (is_data l) (survex_converted ls (k + 1) bytes) e
  where
    go : (x y : Bool) → (survex_from (k + 1) ls ≡ listed bytes → (bytes ≡ text_of (shots (drop 1 (remaining ls)))) × AllFit (shots (drop 1 (remaining ls))))
        → cond x (cond y (legs_from (k + 1) ls) (refused 21 k)) (survex_from (k + 1) ls) ≡ listed bytes
        → (bytes ≡ text_of (shots (drop 1 (cond x (l ∷ remaining ls) (remaining ls))))) × AllFit (shots (drop 1 (cond x (l ∷ remaining ls) (remaining ls))))
    go true true ih f = legs_converted ls (k + 1) bytes f
    go true false ih f = absurd (refused_not_listed 21 k bytes f)
    go false y ih f = ih f

survex_accepted : (ls : List (List ℕ)) (k : ℕ) (m : List ℕ) (ms : List (List ℕ)) → remaining ls ≡ m ∷ ms → is_data m ≡ true → AllFit (shots ms)
    → survex_from k ls ≡ listed (text_of (shots ms))
unfolding survex_from remaining
survex_accepted [] k m ms e d h = absurd (omega (arith, ap length e))
survex_accepted (l ∷ ls) k m ms e d h = go (remains l) (survex_accepted ls (k + 1) m ms) e
  where
    go : (x : Bool) → (remaining ls ≡ m ∷ ms → is_data m ≡ true → AllFit (shots ms) → survex_from (k + 1) ls ≡ listed (text_of (shots ms)))
        → cond x (l ∷ remaining ls) (remaining ls) ≡ m ∷ ms
        → cond x (cond (is_data l) (legs_from (k + 1) ls) (refused 21 k)) (survex_from (k + 1) ls) ≡ listed (text_of (shots ms))
    go false ih f = ih f d h
    go true ih f =
        let i : is_data l ≡ true = ap is_data (head-eq_of_cons-eq f) ∙ d in
        let t = tail-eq_of_cons-eq f in
        rw i (legs_accepted ls (k + 1) (subst (λ (v : List (List ℕ)). AllFit (shots v)) (sym t) h) ∙ ap (λ (v : List (List ℕ)). listed (text_of (shots v))) t)

-- ---- The shot lines in a job

fit_printable : (x : Form) → Fit x → Printable x
unfolding Fit Printable
fit_printable (seeds a0 a1 a2 b0 b1 b2) h = absurd h
fit_printable (sigma d b) h = absurd h
fit_printable (shot f t d b) h = (h.0, h.1, omega (arith, h.2), omega (arith, h.3))
fit_printable no_form h = absurd h

fit_taken : (k : ℕ) (x : Form) → Fit x → 3 ≤ k → k ≤ last_line → refusal k x ≡ 0
unfolding Fit refusal formless misplaced too_many beyond seed_code
fit_taken k (seeds a0 a1 a2 b0 b1 b2) h p q = absurd h
fit_taken k (sigma d b) h p q = absurd h
fit_taken k (shot f t d b) h p q =
    rw (le-ltb k 3 p, le-ltb last_line k q, le-ltb most_distance d h.2, le-ltb most_bearing b h.3)
fit_taken k no_form h p q = absurd h

all_taken : (xs : List Form) (k : ℕ) → AllFit xs → 3 ≤ k → k + length xs ≤ last_line + 1 → Accepts k xs
unfolding AllFit Accepts
all_taken [] k h p q = tt
all_taken (x ∷ xs) k h p q =
    (fit_printable x h.0, fit_taken k x h.0 p (omega (arith, q)), all_taken xs (k + 1) h.1 (omega arith) (omega (arith, q)))

-- a shot line has at most 47 bytes, and no line more than 100
fit_length : (x : Form) → Fit x → length (print_line x) ≤ 47
unfolding Fit
fit_length (seeds a0 a1 a2 b0 b1 b2) h = absurd h
fit_length (sigma d b) h = absurd h
fit_length (shot f t d b) h = omega (
  arith,
  shot_length f t d b,
  name_length_lem f h.0,
  name_length_lem t h.1,
  decimal_length 6 d (omega (arith, h.2)),
  decimal_length 4 b (omega (arith, h.3)),
)
fit_length no_form h = absurd h

text_length : (xs : List Form) → AllFit xs → length (text_of xs) ≤ 47 * length xs
unfolding AllFit text_of
text_length [] h = omega arith
text_length (x ∷ xs) h = rw (length-append (print_line x) (text_of xs)) (omega (arith, fit_length x h.0, text_length xs h.1))

total : List (List ℕ) → ℕ
total [] = 0
total (v ∷ vs) = length v + total vs

total_first : (vs : List (List ℕ)) → length (get_or vs 0 []) + total (drop 1 vs) ≡ total vs
unfolding total
total_first [] = refl
total_first (v ∷ vs) = refl

-- a form that is printed is no longer than the form and its fields
form_length : (form : List ℕ) (vs : List (List ℕ)) → length (print_form form vs) ≤ length form + total vs
unfolding print_form
form_length [] vs = omega arith
form_length (f ∷ form) vs = go (mark f) refl (form_length form (drop 1 vs)) (form_length form vs)
  where
    go : (b : Bool) → mark f ≡ b → length (print_form form (drop 1 vs)) ≤ length form + total (drop 1 vs) → length (print_form form vs) ≤ length form + total vs
        → length (print_form (f ∷ form) vs) ≤ length (f ∷ form) + total vs
    go true e p q = rw (print_mark f form vs e, length-append (get_or vs 0 []) (print_form form (drop 1 vs))) (omega (arith, p, total_first vs))
    go false e p q = rw (print_byte f form vs e) (omega (arith, q))

line_length : (x : Form) → Printable x → length (print_line x) ≤ 100
unfolding Printable print_line seeds_form sigma_form total
line_length (seeds a0 a1 a2 b0 b1 b2) h = omega (
  arith,
  form_length (ascii "(seeds (a # # #) (b # # #))\n") (decimal a0 ∷ decimal a1 ∷ decimal a2 ∷ decimal b0 ∷ decimal b1 ∷ decimal b2 ∷ []),
  decimal_length 9 a0 h.0,
  decimal_length 9 a1 h.1,
  decimal_length 9 a2 h.2,
  decimal_length 9 b0 h.3,
  decimal_length 9 b1 h.4,
  decimal_length 9 b2 h.5,
)
line_length (sigma d b) h = omega (
  arith,
  form_length (ascii "(sigma # #)\n") (decimal d ∷ decimal b ∷ []),
  decimal_length 9 d h.0,
  decimal_length 9 b h.1,
)
line_length (shot f t d b) h = omega (
  arith,
  shot_length f t d b,
  name_length_lem f h.0,
  name_length_lem t h.1,
  decimal_length 9 d h.2,
  decimal_length 9 b h.3,
)
line_length no_form h = absurd h

-- the lines of what is written are the shot lines
lines_fit : (xs : List Form) → AllFit xs → map read_line (lines (text_of xs)) ≡ xs
unfolding AllFit text_of lines
lines_fit [] h = refl
lines_fit (x ∷ xs) h =
    let p = fit_printable x h.0 in
    rw (line_printed x (text_of xs) p, read_printed x p) (ap (λ (ys : List Form). x ∷ ys) (lines_fit xs h.1))

module _ (xs : List Form) (h : AllFit xs) (few : length xs ≤ most_shots) (one two : List ℕ) (p : refusal 1 (read_line one) ≡ 0)
    (q : refusal 2 (read_line two) ≡ 0) where
  first : Printable (read_line one) × (print_line (read_line one) ≡ one)
  first = printed_read one (not_no_form 1 (read_line one) p)

  second : Printable (read_line two) × (print_line (read_line two) ≡ two)
  second = printed_read two (not_no_form 2 (read_line two) q)

  abbrev whole : List Form
  whole = read_line one ∷ read_line two ∷ xs

  text_whole : text_of whole ≡ one ++ (two ++ text_of xs)
  unfolding text_of
  text_whole = rw (first.1, second.1)

  whole_accepts : Accepts 1 whole
  unfolding Accepts
  whole_accepts = (first.0, p, (second.0, q, all_taken xs 3 h (omega arith) (omega (arith, few))))

  whole_short : length (text_of whole) ≤ most_bytes
  whole_short = rw (text_whole, length-append one (two ++ text_of xs), length-append two (text_of xs)) (omega (
    arith,
    ap length first.1,
    ap length second.1,
    line_length (read_line one) first.0,
    line_length (read_line two) second.0,
    text_length xs h,
    few,
  ))

  listed_whole : (answer_of (job_of (one ++ (two ++ text_of xs))) listing_room).code ≡ 0
  unfolding answer_of
  listed_whole =
      let l = (job-theorems.theorems).listed_job whole whole_accepts (omega arith) whole_short in
      let f = (job-theorems.theorems).fits (text_of whole) _ l in
      rw (← text_whole, l, le-leb _ listing_room f)

-- ---- The line that is refused

bad_first : (text : List ℕ) (code k : ℕ) → survex_of text ≡ refused code k → (remaining (lines text) ≡ [] → ⊥)
    → (i : ℕ) × (k ≡ i + 1) × (i < length (lines text)) × FirstBad text i code
unfolding survex_of
bad_first text code k e r =
    let t = survex_tells (lines text) 1 code k e r in
    (t.i, omega (arith, t.is), omega (arith, t.within, codes_length false (lines text)), t.first)

line_after : (text : List ℕ) (code k : ℕ) → survex_of text ≡ refused code k → length (lines text) < k → remaining (lines text) ≡ []
line_after text code k e h = go (remaining (lines text)) refl
  where
    go : (v : List (List ℕ)) → remaining (lines text) ≡ v → v ≡ []
    go [] q = refl
    go (m ∷ ms) q = let (i, is, within, f) = bad_first text code k e (λ z. omega (arith, ap length (sym q ∙ z))) in absurd (omega (arith, is, within, h))

pub theorems : Theorems
unfolding survex_of
theorems = record {
  data_line = data_bytes;
  accepted = λ text l ls e d h.
      survex_accepted (lines text) 1 l ls e d (subst (λ (v : List (List ℕ)). AllFit (shots (drop 1 v))) e h)
      ∙ ap (λ (v : List (List ℕ)). listed (text_of (shots (drop 1 v)))) (sym e);
  converted = λ text bytes e.
      let (l, ls, r, d) = survex_data (lines text) 1 bytes e in
      let c = survex_converted (lines text) 1 bytes e in
      (l, ls, r, d, c.0, c.1);
  first_bad_lem = λ text i code f.
      survex_first (lines text) 1 i code f ∙ ap (refused code) {x = 1 + i} {y = i + 1} (omega arith);
  bad_first = bad_first;
  no_data_line = λ text e. survex_none (lines text) 1 e ∙ ap (refused 21) {x = 1 + length (lines text)} {y = length (lines text) + 1} (omega arith);
  line_after = line_after;
  leg_21 = leg_21;
  leg_22 = leg_22;
  leg_0 = leg_0;
  leg_codes = leg_codes;
  read_back = λ text bytes e.
      let c = survex_converted (lines text) 1 bytes e in ap (λ (b : List ℕ). map read_line (lines b)) c.0 ∙ lines_fit (shots_in text) c.1;
  listed_job = λ text bytes one two e few p q.
      let c = survex_converted (lines text) 1 bytes e in
      rw c.0 (listed_whole (shots_in text) c.1 few one two p q);
}
