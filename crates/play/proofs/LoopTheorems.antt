-- The theorems of specs/LoopTheorems.antt, and what an accepted loop is ready for.
use Prim.Native.Nat.{ℕ, suc, ◌+◌, ◌-◌, ◌≤◌, ◌<◌}
use native.Mathlib.Omega.{arith}
use mathlib.Core.Logic.{◌↔◌}
use mathlib.Core.Path.{◌≡◌, refl, sym, ap, ap₂, subst, ◌∙◌}
use mathlib.Core.Bool.{Bool, true, false, cond, true≢false}
use mathlib.Core.List.{List, [], ◌∷◌, ◌++◌, map}
use lib.Dec.{eqb, ltb}
use lib.ListN.{length, take, drop}
use borrow.Author.Tests.{ne_eqb, eqb-true, le-ltb, ltb-false}
use Rattle.streams.specs.Streams.{seed_of}
use Rattle.streams.specs.Recurrence.{Sound}
use Rattle.text.specs.Scan.{lines}
use Rattle.job_lines.specs.Forms.{Form, seeds, sigma, shot, no_form}
use Rattle.job_reader.specs.Limits.{most_bytes, most_shots, most_distance}
use Rattle.job_reader.specs.Refusals.{Verdict, first_bad}
use Rattle.job_reader.proofs.Accepted.{sigma_within}
use Rattle.job_reader.specs.Setting.{start, setting_on, Steady}
use Rattle.job.specs.Job as job
use Rattle.job.specs.Theorems.{text_of, Accepts}
use Rattle.job_reader.specs.declared.walk.Setting.{Setting}
use Rattle.job.proofs.Pairs.{seeds_sound}
use Rattle.job.proofs.Answered.{Told, job_told, Judged, judged_text}
use Rattle.job.proofs.Jobs.{refused_not_listed}
use Rattle.job.proofs.Theorems as jobs
use Rattle.noisy_shot.specs.Shots.{Shot}
use Rattle.job_lines.specs.Links.{follows, station_code, Following}
use Rattle.job_reader.specs.Loop as loop
use Rattle.job_reader.specs.declared.loops.LoopShot.{LoopShot}
use Rattle.job_reader.specs.Loop.{LoopAnswer}
use Rattle.play.specs.LoopTheorems.{Theorems}
use Rattle.job_reader.proofs.Going.{kept_yes}
use Rattle.play.proofs.Shots.{Shots, later_shots, few_lines, shots_count, setting_kept, kept_shots, by_heads, forms_read}

-- ---- A loop by its job

-- refused as the job is, and once it is listed by its links
abbrev linked_job : List Form → job.Outcome → loop.Outcome
linked_job xs (job.refused code line) = loop.refused code line
linked_job xs (job.listed bytes) =
    cond (eqb (loop.unlinked_line 1 [] xs) 0) (loop.accepted (loop.setting_in start xs) (loop.shots_in xs)) (loop.refused 23 (loop.unlinked_line 1 [] xs))

by_judge : (xs : List Form) (b : Verdict) (o : job.Outcome) → Judged b o → loop.linked xs b ≡ linked_job xs o
by_judge xs b (job.refused n k) j = rw (j.0, ne_eqb n 0 (λ z. omega (arith, j.1, z)))
by_judge xs b (job.listed bytes) j = rw j

loop_job : (text : List ℕ) → loop.loop_of text ≡ linked_job (loop.forms_of text) (job.job_of text)
unfolding loop.loop_of loop.bad_line job.job_of
loop_job text = go (ltb most_bytes (length text))
  where
    go : (q : Bool) → loop.linked (loop.forms_of text) (cond q (record { code = 5; line = 0 }) (first_bad 1 (lines text)))
        ≡ linked_job (loop.forms_of text) (cond q (job.refused 5 0) (job.listing_of text))
    go true = refl
    go false = by_judge (loop.forms_of text) (first_bad 1 (lines text)) (job.listing_of text) (judged_text text)

-- ---- What an accepted loop is

-- the lines that an accepted loop says
pub record Says (text : List ℕ) (s : Setting) (l : List Shot) : Type 0 where
  pub short : length text ≤ most_bytes
  pub forms : List Form
  pub accepts : Accepts 1 forms
  pub enough : 2 ≤ length forms
  pub said : text_of forms ≡ text
  pub read : loop.forms_of text ≡ forms
  pub linked : loop.unlinked_line 1 [] forms ≡ 0
  pub setting : loop.setting_in start forms ≡ s
  pub shots : loop.shots_in forms ≡ l

tag_of : loop.Outcome → ℕ
tag_of (loop.refused n k) = 0
tag_of (loop.accepted s l) = 1

held_of : loop.Outcome → Setting
held_of (loop.refused n k) = start
held_of (loop.accepted s l) = s

ran_of : loop.Outcome → List Shot
ran_of (loop.refused n k) = []
ran_of (loop.accepted s l) = l

pub not_accepted : (n k : ℕ) (s : Setting) (l : List Shot) → loop.refused n k ≡ loop.accepted s l → ⊥
unfolding tag_of
not_accepted n k s l e = let z : ◌≡◌ {A = ℕ} 0 1 = ap tag_of e in omega (arith, z)

pub same_loop : (s t : Setting) (l m : List Shot) → loop.accepted s l ≡ loop.accepted t m → (s ≡ t) × (l ≡ m)
unfolding held_of ran_of
same_loop s t l m e = (ap held_of e, ap ran_of e)

job_few : (text bytes : List ℕ) → job.job_of text ≡ job.listed bytes → length text ≤ most_bytes
unfolding job.job_of
job_few text bytes e = go (ltb most_bytes (length text)) refl e
  where
    go : (t : Bool) → ltb most_bytes (length text) ≡ t → cond t (job.refused 5 0) (job.listing_of text) ≡ job.listed bytes → length text ≤ most_bytes
    go true p e = absurd (refused_not_listed 5 0 bytes e)
    go false p e = ltb-false most_bytes (length text) p

module _ (text : List ℕ) (s : Setting) (l : List Shot) where
  by_link : (bytes : List ℕ) → job.job_of text ≡ job.listed bytes → (q : Bool) → eqb (loop.unlinked_line 1 [] (loop.forms_of text)) 0 ≡ q
      → ◌≡◌ {A = loop.Outcome} (cond q (loop.accepted (loop.setting_in start (loop.forms_of text)) (loop.shots_in (loop.forms_of text)))
      (loop.refused 23 (loop.unlinked_line 1 [] (loop.forms_of text)))) (loop.accepted s l)
      → Says text s l
  by_link bytes j true p e =
      let (setting, shots) = same_loop _ s _ l e in
      let (xs, a, n, t, _) = (jobs.theorems).job_listed text bytes j in
      let read : loop.forms_of text ≡ xs = ap loop.forms_of (sym t) ∙ forms_read xs a in
      record {
        short = job_few text bytes j;
        forms = xs;
        accepts = a;
        enough = n;
        said = t;
        read = read;
        linked = ap (loop.unlinked_line 1 []) (sym read) ∙ eqb-true _ 0 p;
        setting = ap (loop.setting_in start) (sym read) ∙ setting;
        shots = ap loop.shots_in (sym read) ∙ shots;
      }
  by_link bytes j false p e = absurd (not_accepted 23 _ s l e)

  by_job : (o : job.Outcome) → job.job_of text ≡ o → linked_job (loop.forms_of text) o ≡ loop.accepted s l → Says text s l
  by_job (job.refused n k) j e = absurd (not_accepted n k s l e)
  by_job (job.listed bytes) j e = by_link bytes j _ refl e

  pub says : loop.loop_of text ≡ loop.accepted s l → Says text s l
  says e = by_job (job.job_of text) refl (sym (loop_job text) ∙ e)

-- ---- What the answer says of it

-- a refusal has a code
abbrev HasCode : loop.Outcome → Type 0
HasCode (loop.refused code line) = 0 < code
HasCode (loop.accepted s l) = Unit {0}

has_code : (text : List ℕ) → HasCode (loop.loop_of text)
has_code text = subst HasCode (sym (loop_job text)) (by_outcome (job.job_of text) (job_told text))
  where
    either : (q : Bool) (k : ℕ) (s : Setting) (l : List Shot) → HasCode (cond q (loop.accepted s l) (loop.refused 23 k))
    either true k s l = tt
    either false k s l = omega arith

    by_outcome : (o : job.Outcome) → Told o → HasCode (linked_job (loop.forms_of text) o)
    by_outcome (job.refused code line) h = h
    by_outcome (job.listed bytes) h = either (eqb (loop.unlinked_line 1 [] (loop.forms_of text)) 0) _ _ _

pub refused_code : (text : List ℕ) (code line : ℕ) → loop.loop_of text ≡ loop.refused code line → 0 < code
refused_code text code line e = subst HasCode e (has_code text)

module _ (r : LoopAnswer) where
  accepted_outcome : (o : loop.Outcome) → HasCode o → r ≡ loop.answer_of o → r.code ≡ 0
      → (l : List Shot) × (o ≡ loop.accepted r.setting l) × (length l ≡ r.count)
  unfolding loop.answer_of
  accepted_outcome (loop.refused code line) h e z = absurd (omega (arith, h, ap (λ (a : LoopAnswer). a.code) e, z))
  accepted_outcome (loop.accepted s l) h e z =
      (l, ap (λ (t : Setting). loop.accepted t l) (sym (ap (λ (a : LoopAnswer). a.setting) e)), sym (ap (λ (a : LoopAnswer). a.count) e))

  refused_outcome : (o : loop.Outcome) → r ≡ loop.answer_of o → (r.code ≡ 0 → ⊥) → o ≡ loop.refused r.code r.line
  unfolding loop.answer_of
  refused_outcome (loop.refused code line) e z = ap₂ loop.refused (sym (ap (λ (a : LoopAnswer). a.code) e)) (sym (ap (λ (a : LoopAnswer). a.line) e))
  refused_outcome (loop.accepted s l) e z = absurd (z (ap (λ (a : LoopAnswer). a.code) e))

  pub answer_accepted : (text : List ℕ) → r ≡ loop.answer_of (loop.loop_of text) → r.code ≡ 0
      → (l : List Shot) × (loop.loop_of text ≡ loop.accepted r.setting l) × (length l ≡ r.count)
  answer_accepted text e z = accepted_outcome (loop.loop_of text) (has_code text) e z

  pub answer_refused : (text : List ℕ) → r ≡ loop.answer_of (loop.loop_of text) → (r.code ≡ 0 → ⊥) → loop.loop_of text ≡ loop.refused r.code r.line
  answer_refused text e z = refused_outcome (loop.loop_of text) e z

-- ---- What it is ready for: sigmas and shots within their ranges, and a fit record that counts nothing

unfoldable pub Within : List Shot → Type 0
Within [] = Unit {0}
Within (x ∷ l) = (x.distance ≤ most_distance) × (x.step < 65536) × Within l

shots_within : (ys : List Form) → Shots ys → Within (loop.shots_in ys)
unfolding Shots Within loop.shots_in
shots_within [] h = tt
shots_within (shot from to d b ∷ ys) h = (h.2, omega (arith, h.3), shots_within ys h.4)
shots_within (seeds a0 a1 a2 b0 b1 b2 ∷ ys) h = absurd h
shots_within (sigma d b ∷ ys) h = absurd h
shots_within (no_form ∷ ys) h = absurd h

pub record Ready (s : Setting) (l : List Shot) : Type 0 where
  pub steady : Steady s.distance s.bearing
  pub sound : Sound s.generator
  pub none : s.generator.waiting ≡ 0
  pub nothing : s.generator.count ≡ 0
  pub within : Within l
  pub few : length l ≤ most_shots

ready_heads : (a0 a1 a2 b0 b1 b2 d b : ℕ) (ys : List Form) → Accepts 1 (seeds a0 a1 a2 b0 b1 b2 ∷ sigma d b ∷ ys)
    → Ready (loop.setting_in start (seeds a0 a1 a2 b0 b1 b2 ∷ sigma d b ∷ ys)) (loop.shots_in (seeds a0 a1 a2 b0 b1 b2 ∷ sigma d b ∷ ys))
unfolding Accepts loop.setting_in loop.shots_in setting_on
ready_heads a0 a1 a2 b0 b1 b2 d b ys a =
    let shots = later_shots ys 3 (omega arith) a.2.2 in
    let (same, sound) = seeds_sound a0 a1 a2 b0 b1 b2 a.1 in
    let (sd, sb) = sigma_within 2 d b a.2.1 in
    rw (setting_kept ys (record { generator = (seed_of a0 a1 a2 b0 b1 b2).next; distance = d; bearing = b }) shots, same)
    (record {
      steady = record { sigma_distance = sd; sigma_bearing = sb };
      sound = sound;
      none = refl;
      nothing = refl;
      within = shots_within ys shots;
      few = omega (arith, shots_count ys shots, few_lines ys 3 (omega arith) a.2.2);
    })

pub ready : (text : List ℕ) (s : Setting) (l : List Shot) → loop.loop_of text ≡ loop.accepted s l → Ready s l
ready text s l e =
    let w = says text s l e in
    let held : Ready (loop.setting_in start w.forms) (loop.shots_in w.forms) = by_heads (λ xs. Ready (loop.setting_in start xs) (loop.shots_in xs)) ready_heads w.forms w.accepts w.enough in
    subst (λ (m : List Shot). Ready s m) w.shots (subst (λ (t : Setting). Ready t (loop.shots_in w.forms)) w.setting held)

-- ---- The memory

Kept : List LoopShot → List Form → Type 0
Kept memory xs = length (loop.shots_in xs) ≤ length memory → take (length (loop.shots_in xs)) (loop.kept_from 1 xs memory) ≡ map loop.kept_shot (loop.shots_in xs)

kept_heads : (memory : List LoopShot) (a0 a1 a2 b0 b1 b2 d b : ℕ) (ys : List Form) → Accepts 1 (seeds a0 a1 a2 b0 b1 b2 ∷ sigma d b ∷ ys)
    → Kept memory (seeds a0 a1 a2 b0 b1 b2 ∷ sigma d b ∷ ys)
unfolding Kept Accepts loop.shots_in loop.kept_on
kept_heads memory a0 a1 a2 b0 b1 b2 d b ys a room =
    let count = shots_count ys (later_shots ys 3 (omega arith) a.2.2) in
    let n : length (loop.shots_in ys) ≡ 3 - 3 + length ys = omega (arith, count) in
    rw (n, kept_yes 1 (seeds a0 a1 a2 b0 b1 b2) (sigma d b ∷ ys) memory a.1, kept_yes 2 (sigma d b) ys memory a.2.1)
    (kept_shots ys 3 memory (omega arith) a.2.2 (omega (arith, n, room)))

kept : (text : List ℕ) (memory : List LoopShot) (s : Setting) (l : List Shot) → loop.loop_of text ≡ loop.accepted s l → length l ≤ length memory
    → take (length l) (loop.memory_after text memory) ≡ map loop.kept_shot l
unfolding loop.memory_after Kept
kept text memory s l e room =
    let w = says text s l e in
    let held : Kept memory w.forms = by_heads (Kept memory) (kept_heads memory) w.forms w.accepts w.enough in
    let whole : take (length (loop.shots_in w.forms)) (loop.kept_from 1 w.forms memory) ≡ map loop.kept_shot (loop.shots_in w.forms) = held (rw w.shots room) in
    let same : loop.memory_after text memory ≡ loop.kept_from 1 w.forms memory = rw (le-ltb most_bytes (length text) w.short, w.read) in
    ap (take (length l)) same ∙ rw w.shots at whole

-- ---- 23

link_follows : (station from : List ℕ) → eqb (station_code station from) 0 ≡ follows station from
unfolding station_code
link_follows station from = go (follows station from)
  where
    go : (t : Bool) → eqb (cond t 0 23) 0 ≡ t
    go true = refl
    go false = refl

-- the shots of lines that have no unlinked shot follow each other
pub linked_follow : (xs : List Form) (k : ℕ) (station : List ℕ) → Shots xs → 0 < k → (loop.unlinked_line k station xs ≡ 0) ↔ Following station xs
unfolding Shots loop.unlinked_line loop.link_code loop.station_after Following
linked_follow [] k station h some = (λ _. tt, λ _. refl)
linked_follow (shot from to d b ∷ xs) k station h some = rw (link_follows station from) (go (linked_follow xs (k + 1) to h.4 (omega arith)) (follows station from) refl)
  where
    go : (loop.unlinked_line (k + 1) to xs ≡ 0) ↔ Following to xs → (t : Bool) → follows station from ≡ t
        → (◌≡◌ {A = ℕ} (cond t (loop.unlinked_line (k + 1) to xs) k) 0) ↔ ((follows station from ≡ true) × Following to xs)
    go ih true p = (λ e. (p, ih.0 e), λ f. ih.1 f.1)
    go ih false p = (λ e. absurd (omega (arith, some, e)), λ f. absurd (true≢false (sym f.0 ∙ p)))
linked_follow (seeds a0 a1 a2 b0 b1 b2 ∷ xs) k station h some = absurd h
linked_follow (sigma d b ∷ xs) k station h some = absurd h
linked_follow (no_form ∷ xs) k station h some = absurd h

-- the line of the first shot that does not follow
unlinked_at : (xs ys : List Form) (z : Form) (k : ℕ) (station : List ℕ) → Shots (xs ++ (z ∷ ys)) → Following station xs
    → (Following station (xs ++ (z ∷ [])) → ⊥) → loop.unlinked_line k station (xs ++ (z ∷ ys)) ≡ k + length xs
unfolding Shots loop.unlinked_line loop.link_code loop.station_after Following
unlinked_at [] ys (shot from to d b) k station h f unfollowed =
    rw (link_follows station from) (go (follows station from) refl)
  where
    go : (t : Bool) → follows station from ≡ t → ◌≡◌ {A = ℕ} (cond t (loop.unlinked_line (k + 1) to ys) k) (k + 0)
    go true e = absurd (unfollowed (e, tt))
    go false e = omega arith
unlinked_at [] ys (seeds a0 a1 a2 b0 b1 b2) k station h f unfollowed = absurd h
unlinked_at [] ys (sigma d b) k station h f unfollowed = absurd h
unlinked_at [] ys no_form k station h f unfollowed = absurd h
unlinked_at (shot from to d b ∷ xs) ys z k station h f unfollowed =
    let n : k + 1 + length xs ≡ k + suc (length xs) = omega arith in
    rw (link_follows station from, f.0) (unlinked_at xs ys z (k + 1) to h.4 f.1 (λ g. unfollowed (f.0, g)) ∙ n)
unlinked_at (seeds a0 a1 a2 b0 b1 b2 ∷ xs) ys z k station h f unfollowed = absurd h
unlinked_at (sigma d b ∷ xs) ys z k station h f unfollowed = absurd h
unlinked_at (no_form ∷ xs) ys z k station h f unfollowed = absurd h

link_heads : (a0 a1 a2 b0 b1 b2 d b : ℕ) (ys : List Form) → Accepts 1 (seeds a0 a1 a2 b0 b1 b2 ∷ sigma d b ∷ ys)
    → (loop.unlinked_line 1 [] (seeds a0 a1 a2 b0 b1 b2 ∷ sigma d b ∷ ys) ≡ 0) ↔ Following [] (seeds a0 a1 a2 b0 b1 b2 ∷ sigma d b ∷ ys)
unfolding Accepts loop.unlinked_line loop.link_code loop.station_after Following
link_heads a0 a1 a2 b0 b1 b2 d b ys a = linked_follow ys 3 [] (later_shots ys 3 (omega arith) a.2.2) (omega arith)

module _ (text bytes : List ℕ) (j : job.job_of text ≡ job.listed bytes) where
  -- what holds of accepted lines by their first two holds of the lines of this text
  by_forms : (P : List Form → Type 0)
      → ((a0 a1 a2 b0 b1 b2 d b : ℕ) (ys : List Form) → Accepts 1 (seeds a0 a1 a2 b0 b1 b2 ∷ sigma d b ∷ ys) → P (seeds a0 a1 a2 b0 b1 b2 ∷ sigma d b ∷ ys))
      → P (loop.forms_of text)
  by_forms P heads =
      let (xs, a, n, t, _) = (jobs.theorems).job_listed text bytes j in
      let read : loop.forms_of text ≡ xs = ap loop.forms_of (sym t) ∙ forms_read xs a in
      rw read (by_heads P heads xs a n)

  linked_job_lem : (loop.unlinked_line 1 [] (loop.forms_of text) ≡ 0) ↔ Following [] (loop.forms_of text)
  linked_job_lem = by_forms (λ ys. (loop.unlinked_line 1 [] ys ≡ 0) ↔ Following [] ys) link_heads

  followed : Following [] (loop.forms_of text) → loop.loop_of text ≡ loop.accepted (loop.setting_in start (loop.forms_of text)) (loop.shots_in (loop.forms_of text))
  followed f = loop_job text ∙ rw (j, linked_job_lem.1 f)

  not_followed : (Following [] (loop.forms_of text) → ⊥) → (line : ℕ) × (loop.loop_of text ≡ loop.refused 23 line)
  not_followed f = (loop.unlinked_line 1 [] (loop.forms_of text), loop_job text ∙ rw (j, ne_eqb (loop.unlinked_line 1 [] (loop.forms_of text)) 0 (λ e. f (linked_job_lem.0 e))))

  module _ (x y z : Form) (xs ys : List Form) (f : Following [] xs) (unfollowed : Following [] (xs ++ (z ∷ [])) → ⊥) where
    -- shot z is the first that does not follow
    At : List Form → Type 0
    At ws = ws ≡ x ∷ y ∷ (xs ++ (z ∷ ys)) → loop.unlinked_line 1 [] ws ≡ 3 + length xs

    at_heads : (a0 a1 a2 b0 b1 b2 d b : ℕ) (ws : List Form) → Accepts 1 (seeds a0 a1 a2 b0 b1 b2 ∷ sigma d b ∷ ws)
        → At (seeds a0 a1 a2 b0 b1 b2 ∷ sigma d b ∷ ws)
    unfolding At Accepts loop.unlinked_line loop.link_code loop.station_after
    at_heads a0 a1 a2 b0 b1 b2 d b ws a e =
        let rest : ws ≡ xs ++ (z ∷ ys) = ap (drop 2) e in
        rw rest (unlinked_at xs ys z 3 [] (rw rest at (later_shots ws 3 (omega arith) a.2.2)) f unfollowed)

    first_unlinked_lem : loop.forms_of text ≡ x ∷ y ∷ (xs ++ (z ∷ ys)) → loop.loop_of text ≡ loop.refused 23 (3 + length xs)
    unfolding At
    first_unlinked_lem e =
        let line : loop.unlinked_line 1 [] (loop.forms_of text) ≡ 3 + length xs = by_forms At at_heads e in
        loop_job text ∙ rw (j, line, ne_eqb (3 + length xs) 0 (λ z. omega (arith, z)))

refused_job : (text : List ℕ) (code line : ℕ) → job.job_of text ≡ job.refused code line → loop.loop_of text ≡ loop.refused code line
refused_job text code line j = loop_job text ∙ rw j

pub theorems : Theorems
theorems = record {
  refused_job = refused_job;
  followed = followed;
  not_followed = not_followed;
  first_unlinked_lem = λ text bytes j x y z xs ys e f unfollowed. first_unlinked_lem text bytes j x y z xs ys f unfollowed e;
  few = λ text s l e. (ready text s l e).few;
  kept = kept;
}
