-- The theorems of specs/Theorems.antt.
use Prim.Native.Nat.{ℕ, suc, ◌+◌, ◌-◌, ◌*◌, ◌%◌, ◌≤◌, ◌<◌}
use native.Mathlib.Decide.{dec_le}
use native.Mathlib.Omega.{arith}
use mathlib.Core.Path.{◌≡◌, refl, sym, ap, ap₂, ◌∙◌}
use mathlib.Core.Bool.{Bool, true, false, cond, true≢false}
use mathlib.Core.List.{List, map, [], ◌∷◌, ◌++◌}
use mathlib.Core.Logic.{◌↔◌}
use lib.Dec.{eqb, leb, ltb}
use lib.ListN.{length, length-append}
use lib.IntN.{ℤ}
use borrow.Author.Tests.{eqb-true, eqb-false, leb-true, leb-false, lt-leb, ltb-false, not-false}
use Rattle.text.specs.Ascii.{byte}
use Rattle.text.specs.Fields.{decimal}
use Rattle.text.specs.Forms.{print_form}
use Rattle.text.specs.Scan.{lines}
use Rattle.noisy_shot.specs.Rounding.{noisy_distance, noisy_bearing}
use Rattle.job.specs.Limits.{listing_room, longest_listing}
use Rattle.job_reader.specs.Limits.{most_bytes, last_line}
use Rattle.job_lines.specs.Forms.{Form, seeds, sigma, shot, no_form, read_line, print_line, Printable}
use Rattle.listing_rows.specs.Rows.{header, row_form, shot_row, end_row, row_room}
use Rattle.job_reader.specs.Refusals.{formless, misplaced, too_many, beyond, seed_code, refusal}
use Rattle.job_reader.specs.Setting.{start, Steady}
use Rattle.job.specs.Job.{Outcome, refused, listed, onto, outcome, listing_of, job_of, answer_of, noisy_row, setting_after, printed}
use Rattle.job.specs.Theorems.{Theorems, Accepts, text_of, rows, is_shot, shots, Drawn}
use Rattle.job_reader.specs.declared.walk.Setting.{Setting}
use Rattle.job.specs.declared.JobAnswer.{JobAnswer}
use Rattle.listing_rows.proofs.Rows.{header_length}
use Rattle.job_lines.proofs.RoundTrip.{read_printed}
use Rattle.job_reader.proofs.Theorems as refusals
use Rattle.job_reader.proofs.Refused.{seed_apart}
use Rattle.job_reader.proofs.Accepted.{accepted_line}
use Rattle.job.proofs.Bounds.{end_short, steps}
use Rattle.job.proofs.Going.{outcome_yes, outcome_no}
use Rattle.job.proofs.Answered.{job_long, job_short}
use Rattle.job.proofs.Pairs.{drawn_pairs}
use Rattle.job.proofs.Jobs.{
  onto_refused,
  outcome_bad,
  outcome_missing,
  listed_lines,
  listed_says,
  onto_listed,
  refused_not_listed,
  bytes_same,
}

-- ---- the length of a listing

-- the line, or 3 where no shot has come yet
abbrev shot_line : ℕ → ℕ
shot_line k = k + (3 - k)

outcome_short : (ls : List (List ℕ)) (k : ℕ) (s : Setting) (bytes : List ℕ) → k ≤ last_line + 1 → Steady s.distance s.bearing
    → outcome k s ls ≡ listed bytes → length bytes + row_room * shot_line k ≤ row_room * (last_line + 1) + 8
unfolding outcome
outcome_short [] k s bytes h sd e = go (ltb k 3) refl e
  where
    go : (b : Bool) → ltb k 3 ≡ b → cond b (refused 8 k) (listed (end_row (k - 3))) ≡ listed bytes
        → length bytes + row_room * shot_line k ≤ row_room * (last_line + 1) + 8
    go true t e = absurd (refused_not_listed 8 k bytes e)
    go false t e = omega (arith, end_short k h, ap length (bytes_same (end_row (k - 3)) bytes e), ltb-false k 3 t)
outcome_short (l ∷ ls) k s bytes h sd e = go (λ t r. outcome_short ls (k + 1) t r) (eqb (refusal k (read_line l)) 0) refl
  where
    go : ((t : Setting) (r : List ℕ) → k + 1 ≤ last_line + 1 → Steady t.distance t.bearing → outcome (k + 1) t ls ≡ listed r
        → length r + row_room * shot_line (k + 1) ≤ row_room * (last_line + 1) + 8)
        → (b : Bool) → eqb (refusal k (read_line l)) 0 ≡ b → length bytes + row_room * shot_line k ≤ row_room * (last_line + 1) + 8
    go ih true t =
        let z = eqb-true (refusal k (read_line l)) 0 t in
        let p = steps k l s sd z in
        let (r, q, f) = onto_listed (printed (read_line l) s) (outcome (k + 1) (setting_after (read_line l) s) ls) bytes
        (sym (outcome_yes k s l ls z) ∙ e) in
        let i = ih (setting_after (read_line l) s) r (omega (arith, p.line)) p.steady q in
        elim (dec_le 3 k) [
          | yes third ↦ omega (arith, i, p.row, ap length f, length-append (printed (read_line l) s) r, third)
          | no early ↦ omega (arith, i, p.early (omega arith), ap length f, length-append (printed (read_line l) s) r, early)
        ]
    go ih false t = absurd (refused_not_listed (refusal k (read_line l)) k bytes
        (sym (outcome_no k s l ls (eqb-false (refusal k (read_line l)) 0 t)) ∙ e))

pub listing_short : (text bytes : List ℕ) → listing_of text ≡ listed bytes → length bytes ≤ longest_listing
unfolding listing_of start
listing_short text bytes e =
    let (r, q, f) = onto_listed header (outcome 1 start (lines text)) bytes e in
    omega (
      arith,
      outcome_short (lines text) 1 start r (omega arith)
          (record { sigma_distance = omega arith; sigma_bearing = omega arith }) q,
      ap length f,
      length-append header r,
      header_length,
    )

-- ---- from a job to its listing

short_job_lem : (text bytes : List ℕ) → job_of text ≡ listed bytes → listing_of text ≡ listed bytes
unfolding job_of
short_job_lem text bytes e = go _ (ltb most_bytes (length text)) e
  where
    go : (line : ℕ) (b : Bool) → cond b (refused 5 line) (listing_of text) ≡ listed bytes → listing_of text ≡ listed bytes
    go line true e = absurd (refused_not_listed 5 line bytes e)
    go line false e = e

longest : (text bytes : List ℕ) → job_of text ≡ listed bytes → length bytes ≤ longest_listing
longest text bytes e = listing_short text bytes (short_job_lem text bytes e)

fits : (text bytes : List ℕ) → job_of text ≡ listed bytes → length bytes ≤ listing_room
fits text bytes e = omega (arith, longest text bytes e)

-- ---- no line and no record has the code 5 or 10

module _ (m : ℕ) (own : m % 5 ≡ 0) (low : 0 < m) (high : m ≤ 10) where
  refusal_apart : (k : ℕ) (x : Form) → refusal k x ≡ m → ⊥
  unfolding refusal
  refusal_apart k x = go (formless x) (misplaced k x) (too_many k x) (beyond x)
    where
      go : (a b c d : Bool) → ◌≡◌ {A = ℕ} (cond a 6 (cond b 8 (cond c 9 (cond d 7 (seed_code x))))) m → ⊥
      go true b c d e = omega (arith, e)
      go false true c d e = omega (arith, e)
      go false false true d e = omega (arith, e)
      go false false false true e = omega (arith, e)
      go false false false false e = seed_apart x m low (omega arith) e

  abbrev Apart : Outcome → Type 0
  Apart (refused n k) = n ≡ m → ⊥
  Apart (listed l) = Unit {0}

  apart_onto : (a : List ℕ) (o : Outcome) → Apart o → Apart (onto a o)
  apart_onto a (refused n k) h = h
  apart_onto a (listed l) h = tt

  outcome_apart : (ls : List (List ℕ)) (k : ℕ) (s : Setting) → Apart (outcome k s ls)
  unfolding outcome
  outcome_apart [] k s = go (ltb k 3)
    where
      go : (b : Bool) → Apart (cond b (refused 8 k) (listed (end_row (k - 3))))
      go true = λ e. omega (arith, e)
      go false = tt
  outcome_apart (l ∷ ls) k s = go (outcome_apart ls (k + 1) (setting_after (read_line l) s)) (eqb (refusal k (read_line l)) 0)
    where
      go : Apart (outcome (k + 1) (setting_after (read_line l) s) ls) → (b : Bool)
          → Apart (cond b (onto (printed (read_line l) s) (outcome (k + 1) (setting_after (read_line l) s) ls))
          (refused (refusal k (read_line l)) k))
      go ih true = apart_onto (printed (read_line l) s) (outcome (k + 1) (setting_after (read_line l) s) ls) ih
      go ih false = refusal_apart k (read_line l)

  listing_apart : (text : List ℕ) → Apart (listing_of text)
  unfolding listing_of
  listing_apart text = apart_onto header (outcome 1 start (lines text)) (outcome_apart (lines text) 1 start)

-- so that no job has the code 10
job_apart : (text : List ℕ) → Apart 10 refl (omega arith) (omega arith) (job_of text)
unfolding job_of
job_apart text = go _ (ltb most_bytes (length text))
  where
    go : (line : ℕ) (b : Bool) → Apart 10 refl (omega arith) (omega arith) (cond b (refused 5 line) (listing_of text))
    go line true = λ e. omega (arith, e)
    go line false = listing_apart 10 refl (omega arith) (omega arith) text

-- the code of an answer: 10 just where there is a listing, longer than the room; else that of the outcome
module _ (room : ℕ) where
  answer_10 : (o : Outcome) → Apart 10 refl (omega arith) (omega arith) o
      → ((answer_of o room).code ≡ 10) ↔ ((bytes : List ℕ) × (o ≡ listed bytes) × (room < length bytes))
  unfolding answer_of
  answer_10 (refused n k) h = (λ e. absurd (h e), λ r. absurd (refused_not_listed n k r.0 r.1))
  answer_10 (listed bytes) h = by (leb (length bytes) room) refl
    where
      by : (t : Bool) → leb (length bytes) room ≡ t
          → ((answer_of (listed bytes) room).code ≡ 10) ↔ ((l : List ℕ) × (listed bytes ≡ listed l) × (room < length l))
      by true t = (
        λ e. let f = rw t at e in absurd (omega (arith, f)),
        λ r. absurd (omega (arith, leb-true (length bytes) room t, r.2, ap length (bytes_same bytes r.0 r.1))),
      )
      by false t = (λ e. (bytes, refl, omega (arith, leb-false (length bytes) room t)), λ r. rw t)

  answer_not_5 : (o : Outcome) → Apart 5 refl (omega arith) (omega arith) o → (answer_of o room).code ≡ 5 → ⊥
  unfolding answer_of
  answer_not_5 (refused n k) h e = h e
  answer_not_5 (listed bytes) h e = by (leb (length bytes) room) e
    where
      by : (t : Bool) → (cond {A = JobAnswer} t (record { code = 0; line = 0; length = length bytes }) (record { code = 10; line = 0; length = 0 })).code ≡ 5 → ⊥
      by true e = omega (arith, e)
      by false e = omega (arith, e)

  just_5 : (text : List ℕ) → ((answer_of (job_of text) room).code ≡ 5) ↔ (60000 < length text)
  unfolding job_of answer_of
  just_5 text = by _ (ltb most_bytes (length text)) refl
    where
      by : (line : ℕ) (t : Bool) → ltb most_bytes (length text) ≡ t → ((answer_of (cond t (refused 5 line) (listing_of text)) room).code ≡ 5) ↔ (60000 < length text)
      by line true t = (λ e. leb-true (suc most_bytes) (length text) t, λ h. refl)
      by line false t = (
        λ e. absurd (answer_not_5 (listing_of text) (listing_apart 5 refl (omega arith) (omega arith) text) e),
        λ h. absurd (omega (arith, h, ltb-false most_bytes (length text) t)),
      )

  just_10 : (text : List ℕ) → ((answer_of (job_of text) room).code ≡ 10) ↔ ((bytes : List ℕ) × (job_of text ≡ listed bytes) × (room < length bytes))
  just_10 text = answer_10 (job_of text) (job_apart text)

  told_10 : (text : List ℕ) → (answer_of (job_of text) room).code ≡ 10 → answer_of (job_of text) room ≡ record { code = 10; line = 0; length = 0 }
  unfolding answer_of
  told_10 text e = let (bytes, is, long) = (just_10 text).0 e in rw (is, lt-leb (length bytes) room long)

  told_5 : (text : List ℕ) → (answer_of (job_of text) room).code ≡ 5 → answer_of (job_of text) room ≡ record { code = 5; line = 0; length = 0 }
  unfolding answer_of
  told_5 text e = rw (job_long text ((just_5 text).0 e))

never_too_long : (text : List ℕ) → (answer_of (job_of text) listing_room).code ≡ 10 → ⊥
never_too_long text e =
    let (bytes, p, long) = (just_10 listing_room text).0 e in
    omega (arith, long, fits text bytes p)

first_bad_lem : (text l : List ℕ) (xs : List Form) (ls : List (List ℕ)) → length text ≤ most_bytes → Accepts 1 xs
    → lines text ≡ map print_line xs ++ (l ∷ ls) → (refusal (1 + length xs) (read_line l) ≡ 0 → ⊥)
    → job_of text ≡ refused (refusal (1 + length xs) (read_line l)) (1 + length xs)
unfolding listing_of
first_bad_lem text l xs ls n h e b = job_short text n ∙ rw e (onto_refused header _ _ _ (outcome_bad l ls xs 1 start h b))

shot_501 : (text : List ℕ) (xs : List Form) (from to : List ℕ) (d b : ℕ) (ls : List (List ℕ)) → length text ≤ 60000 → Accepts 1 xs
    → length xs ≡ 502 → Printable (shot from to d b) → lines text ≡ map print_line xs ++ (print_line (shot from to d b) ∷ ls)
    → job_of text ≡ refused 9 503
shot_501 text xs from to d b ls short a many p e =
    let line : 1 + length xs ≡ 503 = omega (arith, many) in
    let nine : refusal (1 + length xs) (read_line (print_line (shot from to d b))) ≡ 9
    = ap (refusal (1 + length xs)) (read_printed (shot from to d b) p) ∙ ((refusals.theorems).shot_codes _ from to d b).just_9.1 (omega (arith, line)) in
    first_bad_lem text (print_line (shot from to d b)) xs ls short a e (λ z. let none : ◌≡◌ {A = ℕ} 9 0 = sym nine ∙ z in omega (arith, none))
    ∙ ap₂ refused nine line

missing_line : (text : List ℕ) (xs : List Form) → length text ≤ most_bytes → Accepts 1 xs → lines text ≡ map print_line xs
    → length xs < 2 → job_of text ≡ refused 8 (1 + length xs)
unfolding listing_of
missing_line text xs n h e s =
    job_short text n ∙ rw e (onto_refused header _ _ _ (outcome_missing xs 1 start h (omega (arith, s))))

-- ---- END's figure is the count of shots

-- an accepted line is a shot from line 3 on, and none before
later_shot : (k : ℕ) (x : Form) → 3 ≤ k → refusal k x ≡ 0 → is_shot x ≡ 1
unfolding formless misplaced is_shot
later_shot k (seeds a0 a1 a2 b0 b1 b2) h e =
    absurd (omega (arith, h, eqb-true k 1 (not-false (eqb k 1) (accepted_line k (seeds a0 a1 a2 b0 b1 b2) e).placed)))
later_shot k (sigma d b) h e = absurd (omega (arith, h, eqb-true k 2 (not-false (eqb k 2) (accepted_line k (sigma d b) e).placed)))
later_shot k (shot from to d b) h e = refl
later_shot k no_form h e = absurd (true≢false (accepted_line k no_form e).formed)

early_none : (k : ℕ) (x : Form) → k < 3 → refusal k x ≡ 0 → is_shot x ≡ 0
unfolding misplaced is_shot
early_none k (seeds a0 a1 a2 b0 b1 b2) h e = refl
early_none k (sigma d b) h e = refl
early_none k (shot from to d b) h e = absurd (omega (arith, h, ltb-false k 3 (accepted_line k (shot from to d b) e).placed))
early_none k no_form h e = refl

later_count : (xs : List Form) (k : ℕ) → 3 ≤ k → Accepts k xs → shots xs ≡ length xs
unfolding shots Accepts
later_count [] k h a = refl
later_count (x ∷ xs) k h a = omega (arith, later_shot k x h a.1, later_count xs (k + 1) (omega arith) a.2)

shots_count : (xs : List Form) → Accepts 1 xs → 2 ≤ length xs → length xs - 2 ≡ shots xs
unfolding shots Accepts
shots_count [] a h = absurd (omega (arith, h))
shots_count (x ∷ []) a h = absurd (omega (arith, h))
shots_count (x ∷ y ∷ xs) a h =
    omega (
      arith,
      early_none 1 x (omega arith) a.1,
      early_none 2 y (omega arith) a.2.1,
      later_count xs 3 (omega arith) a.2.2,
    )

listed_job : (xs : List Form) → Accepts 1 xs → 2 ≤ length xs → length (text_of xs) ≤ most_bytes
    → job_of (text_of xs) ≡ listed (header ++ (rows start xs ++ end_row (shots xs)))
listed_job xs a n l = job_short _ l ∙ listed_lines xs a n ∙ rw (shots_count xs a n)

job_listed : (text bytes : List ℕ) → job_of text ≡ listed bytes
    → (xs : List Form) × Accepts 1 xs × (2 ≤ length xs) × (text_of xs ≡ text) × (bytes ≡ header ++ (rows start xs ++ end_row (shots xs)))
job_listed text bytes e =
    let (xs, a, n, t, b) = listed_says text bytes (short_job_lem text bytes e) in
    (xs, a, n, t, b ∙ rw (shots_count xs a n))

shot_pairs : (text bytes : List ℕ) → job_of text ≡ listed bytes → Drawn text bytes
shot_pairs text bytes e =
    let (xs, a, n, t, b) = listed_says text bytes (short_job_lem text bytes e) in
    drawn_pairs text bytes xs a n t b

row : (sigmaMm sigmaStep : ℕ) (from to : List ℕ) (mm step : ℕ) (first second : ℤ) → noisy_row sigmaMm sigmaStep from to mm step first second
    ≡ from ++ (byte " " ∷ (to ++ (byte " " ∷ (decimal (noisy_distance sigmaMm mm first)
    ++ (byte " " ∷ (decimal (noisy_bearing sigmaStep step second) ++ (byte "\n" ∷ [])))))))
unfolding noisy_row row_form shot_row print_form
row sigmaMm sigmaStep from to mm step first second = refl

pub theorems : Theorems
theorems = record {
  listed_job = listed_job;
  job_listed = job_listed;
  shot_pairs = shot_pairs;
  first_bad_lem = first_bad_lem;
  missing_line = missing_line;
  just_5 = λ text room. just_5 room text;
  just_10 = λ text room. just_10 room text;
  told_5 = λ text room. told_5 room text;
  told_10 = λ text room. told_10 room text;
  shot_501 = shot_501;
  row = row;
  longest = longest;
  fits = fits;
  never_too_long = never_too_long;
}
