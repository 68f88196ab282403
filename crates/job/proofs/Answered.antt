-- From the listing, measured and written, to the call's answer and the caller's buffer.
use Prim.Native.Nat.{ℕ, ◌+◌, ◌-◌, ◌≤◌, ◌<◌}
use native.Mathlib.Omega.{arith}
use native.Mathlib.Nat.{zero-add, pos_of_ne-zero}
use mathlib.Core.Path.{◌≡◌, refl, sym, ap, ap₂, ◌∙◌}
use mathlib.Core.Bool.{Bool, true, false, cond, true≢false}
use mathlib.Core.List.{List, [], ◌∷◌}
use lib.ListN.{length}
use lib.Dec.{leb, ltb, eqb}
use borrow.Author.Tests.{lt-ltb, le-ltb, le-leb, lt-leb, leb-true, eqb-false}
use Rattle.std.specs.Prelude.{Ok, Err}
use Rattle.text.specs.Buffer.{written, Puts}
use Rattle.text.proofs.Writing.{position_fits, written_fits}
use Rattle.job_reader.specs.Limits.{most_bytes}
use Rattle.job_reader.specs.Setting.{start}
use Rattle.job.specs.Job.{Outcome, refused, listed, onto, outcome, listing_of, job_of, answer_of, answer_in, buffer_after, output_of}
use Rattle.job.specs.Job.{printed, setting_after}
use Rattle.job_lines.specs.Forms.{read_line}
use Rattle.job_reader.specs.Refusals.{refusal, Verdict, number_of, verdict_in, first_bad}
use Rattle.job_reader.specs.declared.refusals.BadLine.{BadLine}
use Rattle.job_reader.specs.declared.refusals.Refusal.TheVariants.{Line}
use Rattle.job_reader.proofs.Refused as reader
use Rattle.job_reader.proofs.Refused.{number_positive}
use Rattle.job.specs.Refusals.{code_of}
use Rattle.job.specs.declared.refusal.Refusal.{Refusal}
use Rattle.job.specs.declared.refusal.Refusal.TheVariants.{Job, ListingTooLong}
use Rattle.listing_rows.specs.Rows.{header, end_row, refused_row}
use Rattle.job_reader.specs.declared.walk.Setting.{Setting}
use Rattle.text.specs.Scan.{lines}
use Rattle.job.specs.Private.{Wrote, Decided}
use Rattle.job.specs.declared.JobAnswer.{JobAnswer}

pub job_long : (text : List ℕ) → most_bytes < length text → job_of text ≡ refused 5 0
unfolding job_of
job_long text h = rw (lt-ltb most_bytes (length text) h)

pub job_short : (text : List ℕ) → length text ≤ most_bytes → job_of text ≡ listing_of text
unfolding job_of
job_short text h = rw (le-ltb most_bytes (length text) h)

abbrev size : JobAnswer → ℕ
size r = r.length

-- ---- Whether a job is refused

-- what is measured by way of a spare buffer decides
module _ (o : Outcome) (room : ℕ) where
  pub measured_long : (n : ℕ) (spare spare' : List ℕ) → Wrote o (Ok n) spare spare' → room < n → Decided o room (Err ListingTooLong)
  unfolding answer_of
  measured_long n spare spare' (bytes, e, m, w) h = rw (e, lt-leb (length bytes) room (omega (arith, m, h)))

  pub measured_fits : (n : ℕ) (spare spare' : List ℕ) → Wrote o (Ok n) spare spare' → n ≤ room → Decided o room (Ok tt)
  measured_fits n spare spare' (bytes, e, m, w) h = (bytes, e, omega (arith, m, h))

  pub line_decides : (bad : BadLine) → o ≡ refused (number_of bad.cause) bad.line → Decided o room (Err (Job (Line bad)))
  unfolding answer_of
  line_decides bad e = rw e

-- and so does the first bad line, in a room for any listing
abbrev pub Judged : Verdict → Outcome → Type 0
Judged b (refused code line) = (b ≡ record { code = code; line = line }) × (0 < code)
Judged b (listed bytes) = b.code ≡ 0

judged_onto : (b : Verdict) (bytes : List ℕ) (o : Outcome) → Judged b o → Judged b (onto bytes o)
judged_onto b bytes (refused n k) j = j
judged_onto b bytes (listed rest) j = j

judged_lines : (ls : List (List ℕ)) (k : ℕ) (s : Setting) → Judged (first_bad k ls) (outcome k s ls)
unfolding outcome first_bad
judged_lines [] k s = go (ltb k 3)
  where
    go : (b : Bool) → Judged (cond b (record { code = 8; line = k }) (record { code = 0; line = 0 })) (cond b (refused 8 k) (listed (end_row (k - 3))))
    go true = (refl, omega arith)
    go false = refl
judged_lines (l ∷ ls) k s = go (eqb (refusal k (read_line l)) 0) refl (judged_lines ls (k + 1) (setting_after (read_line l) s))
  where
    go : (b : Bool) → eqb (refusal k (read_line l)) 0 ≡ b
        → Judged (first_bad (k + 1) ls) (outcome (k + 1) (setting_after (read_line l) s) ls)
        → Judged (cond b (first_bad (k + 1) ls) (record { code = refusal k (read_line l); line = k }))
        (cond b (onto (printed (read_line l) s) (outcome (k + 1) (setting_after (read_line l) s) ls)) (refused (refusal k (read_line l)) k))
    go true e j = judged_onto (first_bad (k + 1) ls) (printed (read_line l) s) (outcome (k + 1) (setting_after (read_line l) s) ls) j
    go false e j = (refl, pos_of_ne-zero (eqb-false (refusal k (read_line l)) 0 e))

pub judged_text : (text : List ℕ) → Judged (first_bad 1 (lines text)) (listing_of text)
unfolding listing_of
judged_text text = judged_onto (first_bad 1 (lines text)) header (outcome 1 start (lines text)) (judged_lines (lines text) 1 start)

-- a line is bad, or none is
pub judged_refused : (text : List ℕ) (bad : BadLine) → verdict_in {A = ℕ} (Err bad) ≡ first_bad 1 (lines text) → listing_of text ≡ refused (number_of bad.cause) bad.line
judged_refused text bad e = go (listing_of text) (rw (← e) at (judged_text text))
  where
    go : (o : Outcome) → Judged (record { code = number_of bad.cause; line = bad.line }) o → o ≡ refused (number_of bad.cause) bad.line
    go (refused n k) j = ap₂ refused (sym (ap (λ (v : Verdict). v.code) j.0)) (sym (ap (λ (v : Verdict). v.line) j.0))
    go (listed bytes) j = absurd (number_positive bad.cause j)

pub judged_listed : (text : List ℕ) → record { code = 0; line = 0 } ≡ first_bad 1 (lines text) → (bytes : List ℕ) × (listing_of text ≡ listed bytes)
judged_listed text e = go (listing_of text) (rw (← e) at (judged_text text))
  where
    go : (o : Outcome) → Judged (record { code = 0; line = 0 }) o → (bytes : List ℕ) × (o ≡ listed bytes)
    go (refused n k) j = absurd (omega (arith, ap (λ (v : Verdict). v.code) j.0, j.1))
    go (listed bytes) j = (bytes, refl)

bytes_of : Outcome → List ℕ
bytes_of (refused code line) = []
bytes_of (listed bytes) = bytes

listed_same : {a b : List ℕ} → listed a ≡ listed b → a ≡ b
unfolding bytes_of
listed_same e = ap bytes_of e

is_listed : Outcome → Bool
is_listed (refused code line) = false
is_listed (listed bytes) = true

pub not_both : (o : Outcome) (bytes : List ℕ) (code line : ℕ) → o ≡ listed bytes → o ≡ refused code line → ⊥
unfolding is_listed
not_both o bytes code line e f = true≢false (ap is_listed (sym e ∙ f))

-- ---- The answer, and the caller's buffer

-- no refusal has the code 0
pub code_positive : (why : Refusal) → code_of why ≡ 0 → ⊥
code_positive (Job why) e = reader.code_positive why e
code_positive ListingTooLong e = omega (arith, e)

-- A refusal leaves the buffer and gives the one line of code and line.
pub printed_refused : (o : Outcome) (out : List ℕ) → ((answer_of o (length out)).code ≡ 0 → ⊥)
    → (buffer_after o out ≡ out) × (refused_row (answer_of o (length out)).code (answer_of o (length out)).line ≡ output_of o (length out))
unfolding answer_of buffer_after output_of
printed_refused (refused n k) out z = (refl, refl)
printed_refused (listed bytes) out z = go (leb (length bytes) (length out)) refl
  where
    go : (b : Bool) → leb (length bytes) (length out) ≡ b
        → (buffer_after (listed bytes) out ≡ out)
        × (refused_row (answer_of (listed bytes) (length out)).code (answer_of (listed bytes) (length out)).line
        ≡ output_of (listed bytes) (length out))
    go true e = absurd (z (rw (answer_of, e)))
    go false e = rw (buffer_after, answer_of, output_of, e) (refl, refl)

module _ (o : Outcome) (out : List ℕ) where
  pub answered_refused : (refusal : Refusal) → Decided o (length out) (Err refusal)
      → (answer_in (Err refusal) ≡ answer_of o (length out)) × (out ≡ buffer_after o out)
  answered_refused refusal w = (sym w, sym (printed_refused o out (λ z. code_positive refusal (sym (ap (λ (r : JobAnswer). r.code) w) ∙ z))).0)

  pub answered_listed : (bytes : List ℕ) → o ≡ listed bytes → length bytes ≤ length out → (n : ℕ) (new : List ℕ) → Wrote o (Ok n) out new
      → (answer_in (Ok n) ≡ answer_of o (length out)) × (new ≡ buffer_after o out)
  unfolding answer_of buffer_after
  answered_listed bytes e fit n new (written_bytes, f, m, w) =
      let same : written_bytes ≡ bytes = listed_same (sym f ∙ e) in
      let w' : new ≡ written out 0 bytes = rw same at w in
      let m' : n ≡ length bytes = rw same at m in
      rw (e, le-leb (length bytes) (length out) fit, m')
      (refl, w' ∙ written_fits out 0 bytes (omega (arith, fit)) ∙ rw (zero-add (length bytes)))

-- an answer's length is within the buffer
pub answer_fits : (o : Outcome) (room : ℕ) → (answer_of o room).length ≤ room
unfolding answer_of
answer_fits (refused n k) room = omega arith
answer_fits (listed bytes) room = go (leb (length bytes) room) refl
  where
    go : (b : Bool) → leb (length bytes) room ≡ b
        → (cond {A = JobAnswer} b (record { code = 0; line = 0; length = length bytes })
        (record { code = 10; line = 0; length = 0 })).length ≤ room
    go true e = leb-true (length bytes) room e
    go false e = omega arith

pub answer_within : (o : Outcome) (room : ℕ) (r : JobAnswer) → r ≡ answer_of o room → r.length ≤ room
answer_within o room r e = omega (arith, ap size e, answer_fits o room)

-- ---- What the listing program prints

-- a refused job has a code
abbrev pub Told : Outcome → Type 0
Told (refused code line) = 0 < code
Told (listed bytes) = Unit {0}

pub onto_told : (bytes : List ℕ) (o : Outcome) → Told o → Told (onto bytes o)
onto_told bytes (refused n k) h = h
onto_told bytes (listed rest) h = tt

judged_told : (b : Verdict) (o : Outcome) → Judged b o → Told o
judged_told b (refused n k) j = j.1
judged_told b (listed bytes) j = tt

pub job_told : (text : List ℕ) → Told (job_of text)
unfolding job_of
job_told text = go _ (ltb most_bytes (length text))
  where
    go : (line : ℕ) (b : Bool) → Told (cond b (refused 5 line) (listing_of text))
    go line true = omega arith
    go line false = judged_told (first_bad 1 (lines text)) (listing_of text) (judged_text text)

-- an answer of 0 has the listing in the buffer
pub printed_listed : (o : Outcome) (out : List ℕ) → Told o → (answer_of o (length out)).code ≡ 0
    → Puts out 0 (output_of o (length out)) (answer_of o (length out)).length (buffer_after o out)
unfolding answer_of buffer_after output_of
printed_listed (refused n k) out told z = absurd (omega (arith, told, z))
printed_listed (listed bytes) out told z = go (leb (length bytes) (length out)) refl
  where
    go : (b : Bool) → leb (length bytes) (length out) ≡ b
        → Puts out 0 (output_of (listed bytes) (length out)) (answer_of (listed bytes) (length out)).length
        (buffer_after (listed bytes) out)
    go true e =
        let room : 0 + length bytes ≤ length out = omega (arith, leb-true (length bytes) (length out) e) in
        rw (buffer_after, answer_of, output_of, e)
        (sym (position_fits out 0 bytes room ∙ zero-add (length bytes)), sym (written_fits out 0 bytes room ∙ rw (zero-add (length bytes))))
    go false e = absurd (omega (arith, rw (answer_of, e) at z))
