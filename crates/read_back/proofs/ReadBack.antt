-- A listing of the listing call whose shots follow each other is read back, END and all; another is refused with 23.
use Prim.Native.Nat.{ℕ, ◌+◌, ◌-◌, ◌≤◌}
use native.Mathlib.Omega.{arith}
use native.Mathlib.Nat.{mul-le-mul}
use mathlib.Core.Logic.{◌⊎◌, inl, inr}
use mathlib.Core.Path.{◌≡◌, refl, sym, ap, subst, ◌∙◌}
use mathlib.Core.Bool.{Bool, true, false, cond, true≢false}
use mathlib.Core.List.{List, [], ◌∷◌, ◌++◌, map}
use lib.Dec.{ltb, eqb}
use lib.IntN.{ℤ, pos, negsuc, nat_abs}
use lib.ListN.{length}
use borrow.Author.Tests.{le-ltb, eqb-true, eqb-false, ltb-false, not-false}
use Rattle.text.specs.Fields.{name}
use Rattle.text.specs.Scan.{lines}
use Rattle.job_lines.specs.Forms.{Form, seeds, sigma, shot, no_form, read_line, Printable}
use Rattle.job_lines.proofs.RoundTrip.{printed_read, shot_not_none}
use Rattle.noisy_shot.specs.Rounding.{noise_size, noisy_distance, noisy_bearing}
use Rattle.listing_rows.specs.Rows.{header, end_row, row_of, header_of}
use Rattle.streams.specs.declared.Generator.{Generator}
use Rattle.box_muller.specs.Steps.{fraction_bits}
use Rattle.box_muller.proofs.Theorems as samples
use Rattle.noise.specs.Noise.{pair_of}
use Rattle.noise.proofs.Theorems.{pair_sizes}
use Rattle.job_reader.specs.Limits as limits
use Rattle.job_reader.specs.Refusals as jobs
use Rattle.job_reader.specs.Setting.{start, Steady}
use Rattle.job.specs.Job as job
use Rattle.job.specs.Job.{noisy_row}
use Rattle.job_reader.specs.declared.walk.Setting.{Setting}
use Rattle.job_reader.proofs.Refused.{or_false}
use Rattle.job_reader.proofs.Accepted.{Accepted, accepted_line}
use Rattle.job.proofs.Bounds.{steps}
use Rattle.job.proofs.Going as going
use Rattle.job.proofs.Jobs as jobLaws
use Rattle.sums.specs.Sums.{most_distance}
use Rattle.sums.specs.Spans.{Span}
use Rattle.listing_rows.specs.Entries.{leg}
use Rattle.job_lines.specs.Links.{follows, station_code, Following}
use Rattle.misclosure.specs.Misclosure.{last_line, most_step, beyond, refusal, Outcome, refused, accepted, onto, outcome, listing_of}
use Rattle.read_back.specs.ReadBack.{ReadBack}
use Rattle.misclosure.proofs.Lines.{in_range_lem}
use Rattle.misclosure.proofs.Listings.{outcome_row, outcome_leg, outcome_end, listing_headed}

-- "1,008,242 mm, which the half step can reach"
pub sized_most : (σ d : ℕ) (z : ℤ) → σ ≤ limits.most_sigma → d ≤ limits.most_distance → nat_abs z ≤ 16879 → noisy_distance σ d z ≤ most_distance
unfolding noisy_distance noise_size
sized_most σ d (pos n) h k l = omega (arith, mul-le-mul h l)
sized_most σ d (negsuc n) h k l = omega arith

distance_most : (σ d : ℕ) (g : Generator) → σ ≤ limits.most_sigma → d ≤ limits.most_distance → noisy_distance σ d (pair_of fraction_bits g).first ≤ most_distance
distance_most σ d g h k = sized_most σ d (pair_of fraction_bits g).first h k (pair_sizes fraction_bits g).0

pub bearing_most : (σ b : ℕ) (z : ℤ) → noisy_bearing σ b z ≤ most_step
unfolding noisy_bearing
bearing_most σ b (pos n) = omega arith
bearing_most σ b (negsuc n) = omega arith

-- the names of a shot that was read
shot_names : (l from to : List ℕ) (d b : ℕ) → read_line l ≡ shot from to d b → (name from ≡ true) × (name to ≡ true)
unfolding Printable
shot_names l from to d b e =
    let p : Printable (shot from to d b) = subst Printable e (printed_read l (λ t. shot_not_none from to d b (sym e ∙ t))).0 in
    (p.0, p.1)

-- the listing's line of what line k of a job prints: its lines are one less than the job's, and line 2 is the first shot's
abbrev line_of : ℕ → ℕ
line_of k = k + (3 - k) - 1

-- accepted where the shots follow each other, and else refused for a shot that does not start at the last station
abbrev Back : ℕ → List ℕ → List ℕ → List Form → Type 0
Back k station bytes xs =
    ((l : List Span) × (outcome false (line_of k) station (lines bytes) ≡ accepted l) × Following station xs)
    ⊎ ((line : ℕ) × (outcome false (line_of k) station (lines bytes) ≡ refused 23 line) × (Following station xs → ⊥))

leg_23 : (k : ℕ) (station from to : List ℕ) (low high step : ℕ) → beyond k low high step ≡ false → low ≤ high → follows station from ≡ false
    → refusal k station (leg from to low high step) ≡ 23
unfolding refusal station_code
leg_23 k station from to low high step e h f = rw (e, le-ltb high low h, f)

-- one line more in front
front : (k : ℕ) (line : List ℕ) (x : Form) → read_line line ≡ x → (s : Setting) → Steady s.distance s.bearing → Accepted k x → (station rest : List ℕ) (xs : List Form)
    → ((to : List ℕ) → Back (k + 1) to rest xs) → Back k station (job.printed x s ++ rest) (x ∷ xs)
unfolding job.printed jobs.misplaced jobs.too_many jobs.beyond jobs.formless noisy_row row_of Following
front k line (seeds a0 a1 a2 b0 b1 b2) e s steady a station rest xs back =
    let one = eqb-true k 1 (not-false (eqb k 1) a.placed) in
    let i : line_of k ≡ line_of (k + 1) = omega (arith, one) in
    rw i (back station)
front k line (sigma d b) e s steady a station rest xs back =
    let two = eqb-true k 2 (not-false (eqb k 2) a.placed) in
    let i : line_of k ≡ line_of (k + 1) = omega (arith, two) in
    rw i (back station)
front k line (shot from to d b) e s steady a station rest xs back = go (follows station from) refl
  where
    d' : ℕ
    d' = noisy_distance s.distance d (pair_of fraction_bits s.generator).first

    step' : ℕ
    step' = noisy_bearing s.bearing b (pair_of fraction_bits s.generator).second

    heard : Span
    heard = record { low = d'; high = d'; step = step' }

    far : d' ≤ most_distance
    far =
        let r = or_false (ltb limits.most_distance d) (ltb limits.most_bearing b) a.ranged in
        distance_most s.distance d s.generator steady.sigma_distance (ltb-false limits.most_distance d r.0)

    turn : step' ≤ most_step
    turn = bearing_most s.bearing b _

    high : line_of k ≤ last_line
    high = omega (arith, ltb-false k 3 a.placed, ltb-false limits.last_line k a.few)

    next_line : line_of k + 1 ≡ line_of (k + 1)
    next_line = omega (arith, ltb-false k 3 a.placed)

    names : (name from ≡ true) × (name to ≡ true)
    names = shot_names line from to d b e

    onward_of : follows station from ≡ true → Back (k + 1) to rest xs → Back k station (job.printed (shot from to d b) s ++ rest) (shot from to d b ∷ xs)
    onward_of f (inl (l, p, more)) =
        let after : outcome false (line_of k + 1) to (lines rest) ≡ accepted l = rw next_line p in
        inl (
          heard ∷ l,
          outcome_leg false (line_of k) station from to d' d' step' rest names.0 names.1 high far turn refl f ∙ ap (onto heard) after,
          (f, more),
        )
    onward_of f (inr (line, p, not)) =
        let after : outcome false (line_of k + 1) to (lines rest) ≡ refused 23 line = rw next_line p in
        inr (
          line,
          outcome_leg false (line_of k) station from to d' d' step' rest names.0 names.1 high far turn refl f ∙ ap (onto heard) after,
          λ h. not h.1,
        )

    go : (t : Bool) → follows station from ≡ t → Back k station (job.printed (shot from to d b) s ++ rest) (shot from to d b ∷ xs)
    go true f = onward_of f (back to)
    go false f = inr (
      line_of k,
      outcome_row false (line_of k) station from to d' d' step' rest names.0 names.1 (omega (arith, far)) (omega (arith, far)) (omega (arith, turn)) refl
          ∙ rw (leg_23 (line_of k) station from to d' d' step' (in_range_lem (line_of k) d' d' step' high far far turn) (omega arith) f),
      λ h. true≢false (sym h.0 ∙ f),
    )
front k line no_form e s steady a station rest xs back = absurd (true≢false a.formed)

back_lines : (ls : List (List ℕ)) (k : ℕ) (s : Setting) (station bytes : List ℕ) → k ≤ limits.last_line + 1 → Steady s.distance s.bearing
    → job.outcome k s ls ≡ job.listed bytes → Back k station bytes (map read_line ls)
unfolding job.outcome Following
back_lines [] k s station bytes few steady e = go (ltb k 3) refl e
  where
    go : (b : Bool) → ltb k 3 ≡ b → cond b (job.refused 8 k) (job.listed (end_row (k - 3))) ≡ job.listed bytes → Back k station bytes []
    go true t e = absurd (jobLaws.refused_not_listed 8 k bytes e)
    go false t e =
        let low = ltb-false k 3 t in
        inl (
          [],
          rw (← jobLaws.bytes_same (end_row (k - 3)) bytes e) (outcome_end false (line_of k) station (k - 3) (omega arith) (omega arith)),
          tt,
        )
back_lines (line ∷ ls) k s station bytes few steady e =
    go (λ t r st. back_lines ls (k + 1) t st r) (eqb (jobs.refusal k (read_line line)) 0) refl
  where
    go : ((t : Setting) (r st : List ℕ) → k + 1 ≤ limits.last_line + 1 → Steady t.distance t.bearing → job.outcome (k + 1) t ls ≡ job.listed r
        → Back (k + 1) st r (map read_line ls))
        → (b : Bool) → eqb (jobs.refusal k (read_line line)) 0 ≡ b → Back k station bytes (read_line line ∷ map read_line ls)
    go ih true t =
        let z = eqb-true (jobs.refusal k (read_line line)) 0 t in
        let p = steps k line s steady z in
        let (r, o, same) = jobLaws.onto_listed (job.printed (read_line line) s) (job.outcome (k + 1) (job.setting_after (read_line line) s) ls) bytes
        (sym (going.outcome_yes k s line ls z) ∙ e) in
        rw same
        (front k line (read_line line) refl s steady (accepted_line k (read_line line) z) station r (map read_line ls)
        (λ to. ih (job.setting_after (read_line line) s) r to (omega (arith, p.line)) p.steady o))
    go ih false t = absurd (jobLaws.refused_not_listed (jobs.refusal k (read_line line)) k bytes
        (sym (going.outcome_no k s line ls (eqb-false (jobs.refusal k (read_line line)) 0 t)) ∙ e))

-- a listing read back, or refused with 23
abbrev Either : List ℕ → List ℕ → Type 0
Either text bytes =
    ((l : List Span) × (listing_of false bytes ≡ accepted l) × Following [] (map read_line (lines text)))
    ⊎ ((line : ℕ) × (listing_of false bytes ≡ refused 23 line) × (Following [] (map read_line (lines text)) → ⊥))

either : (text bytes : List ℕ) → job.job_of text ≡ job.listed bytes → Either text bytes
unfolding job.job_of job.listing_of start header_of
either text bytes e = go (ltb limits.most_bytes (length text)) e
  where
    headed : (r : List ℕ) → bytes ≡ header ++ r → Back 1 [] r (map read_line (lines text)) → Either text bytes
    headed r same (inl (l, p, all)) = inl (l, ap (listing_of false) same ∙ listing_headed false r ∙ p, all)
    headed r same (inr (line, p, not)) = inr (line, ap (listing_of false) same ∙ listing_headed false r ∙ p, not)

    go : (b : Bool) → cond b (job.refused 5 0) (job.listing_of text) ≡ job.listed bytes → Either text bytes
    go true e = absurd (jobLaws.refused_not_listed 5 0 bytes e)
    go false e =
        let (r, o, same) = jobLaws.onto_listed header (job.outcome 1 start (lines text)) bytes e in
        headed r same
        (back_lines (lines text) 1 start [] r (omega arith) (record { sigma_distance = omega arith; sigma_bearing = omega arith }) o)

-- a listing is refused with one code, or accepted
one_code : (o : Outcome) (m n j k : ℕ) → o ≡ refused m j → o ≡ refused n k → m ≡ n
one_code o m n j k e f = cc

accepted_not_refused : (o : Outcome) (l : List Span) (n k : ℕ) → o ≡ accepted l → o ≡ refused n k → ⊥
accepted_not_refused o l n k e f = let z : ◌≡◌ {A = ℕ} 0 1 = cc in omega arith

pub read_back : ReadBack
unfolding noisy_distance noise_size
read_back = record {
  followed = λ text bytes e f. elim (either text bytes e) [
    | inl found ↦ (found.0, found.1)
    | inr other ↦ absurd (other.2 f)
  ];
  not_followed = λ text bytes e not. elim (either text bytes e) [
    | inl found ↦ absurd (not found.2)
    | inr other ↦ (other.0, other.1)
  ];
  but_for_23 = λ text bytes e code line f. elim (either text bytes e) [
    | inl found ↦ absurd (accepted_not_refused _ found.0 code line found.1 f)
    | inr other ↦ one_code _ code 23 line other.0 f other.1
  ];
  reached = rw (samples.theorems).highest.0 (refl, refl);
  none_farther = distance_most;
}
