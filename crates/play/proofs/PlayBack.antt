-- The theorems of specs/PlayBack.antt.
use Prim.Native.Nat.{ℕ, zero, suc, ◌+◌, ◌*◌, ◌≤◌, ◌<◌}
use native.Mathlib.Nat.{mul-le-mul, mul-le-mul_right, le_refl, lt_of_not-le}
use native.Mathlib.Omega.{arith}
use mathlib.Core.Logic.{◌↔◌}
use mathlib.Core.Path.{◌≡◌, refl, sym, ap, ap₂, subst, ◌∙◌}
use mathlib.Core.Bool.{Bool, true, false, cond}
use mathlib.Core.List.{List, [], ◌∷◌, ◌++◌, map}
use lib.Dec.{eqb}
use lib.IntN.{ℤ}
use lib.ListN.{length, get_or, length-map, length-append}
use borrow.Author.Tests.{eqb-true, eqb-false}
use Rattle.streams.specs.declared.Generator.{Generator}
use Rattle.streams.specs.Streams.{most_count, count_code, seed_of, fresh}
use Rattle.streams.specs.Recurrence.{Sound, seed_from}
use Rattle.streams.proofs.Causes.{count_room}
use Rattle.streams.proofs.Theorems.{after_moved, moved_sound, seeded, sound_accepted}
use Rattle.box_muller.specs.Steps.{fraction_bits}
use Rattle.noise.specs.Noise.{samples}
use Rattle.noise.proofs.Laws.{samples_words}
use Rattle.job_lines.specs.Forms.{Form, seeds, sigma, Printable}
use Rattle.job_reader.specs.Limits.{most_shots}
use Rattle.job_reader.specs.Refusals.{refusal}
use Rattle.streams.proofs.Seeding as seeding
use Rattle.job_reader.proofs.Theorems as refusals
use Rattle.job_reader.proofs.Accepted.{sigma_within}
use Rattle.listing_rows.specs.Rows.{header_of}
use Rattle.job_reader.specs.Setting.{start, setting_on, Steady}
use Rattle.job.specs.Job as job
use Rattle.job.specs.Theorems as jobs
use Rattle.job_reader.specs.declared.walk.Setting.{Setting}
use Rattle.job.proofs.Pairs.{seeds_sound}
use Rattle.job.proofs.Theorems as jobLaws
use Rattle.noisy_shot.specs.Shots.{Shot}
use Rattle.sums.specs.Sums.{sine, cosine, total, rounded}
use Rattle.sums.specs.Spans.{low_shots}
use Rattle.misclosure.specs.Misclosure.{listing_of, miss_of}
use Rattle.misclosure.specs.Theorems as listings
use Rattle.misclosure.proofs.Theorems as listingLaws
use Rattle.job_lines.specs.Links.{Following}
use Rattle.job_reader.specs.Loop as loop
use Rattle.play.proofs.Shots.{Shots, later_shots, few_lines, setting_kept, by_heads}
use Rattle.play.proofs.LoopTheorems.{Ready, ready, says, linked_follow, same_loop, not_accepted, refused_code}
use Rattle.play.specs.Play.{played_shots, sum_at, miss_at, misses_from, room_for, play_of, answer_of, misses_after}
use Rattle.play.specs.Private.{setting_of, noisy_shots}
use Rattle.play.specs.PlayBack.{reseeded, IsMisclosure, code_of, leaves, Theorems}
use Rattle.play.proofs.Answered.{read_back}
use Rattle.play.proofs.Blocks.{played_are}
use Rattle.play.proofs.Runs.{misses_joined}
use Rattle.play.proofs.Rows.{noisy_rows, rows_printed, rows_linked, rows_played, rows_count}
use Rattle.play.proofs.Texts.{after_first, text_short}

-- ---- No sample depends on the count

module _ (g : Generator) (h : Sound g) where
  fresh_sound : Sound (fresh g.a g.b)
  fresh_sound = record { range_a = h.range_a; range_b = h.range_b; minima_a = h.minima_a; minima_b = h.minima_b }

  -- the registers of a record are fit seeds, and give a record with the same registers
  reseeds : (seed_from g.a g.b).code ≡ 0
  unfolding seed_of
  reseeds = sound_accepted (fresh g.a g.b) fresh_sound

  same_samples : (n : ℕ) → g.waiting ≡ 0 → g.count + n ≤ most_count → samples fraction_bits n g ≡ samples fraction_bits n (fresh g.a g.b)
  same_samples n none room =
      samples_words fraction_bits n g h none room
      ∙ sym (samples_words fraction_bits n (fresh g.a g.b) fresh_sound refl (omega (arith, room)))

  same_play : (l : List Shot) (d b : ℕ) → g.waiting ≡ 0 → g.count + length l ≤ most_count
      → played_shots (setting_of g d b) l ≡ played_shots (setting_of (fresh g.a g.b) d b) l
  same_play l d b none room =
      let zs = map loop.kept_shot l in
      let n : length zs ≡ length l = length-map l loop.kept_shot in
      let read = read_back l in
      ap (played_shots (setting_of g d b)) (sym read)
      ∙ sym (played_are zs d b g)
      ∙ ap (noisy_shots d b zs) (same_samples (length zs) none (omega (arith, room, n)))
      ∙ played_are zs d b (fresh g.a g.b)
      ∙ ap (played_shots (setting_of (fresh g.a g.b) d b)) read

  abbrev seeds_line : Form
  seeds_line = seeds g.a.s0 g.a.s1 g.a.s2 g.b.s0 g.b.s1 g.b.s2

  seeds_accepted : refusal 1 seeds_line ≡ 0
  seeds_accepted = ((refusals.theorems).seeds_codes 1 _ _ _ _ _ _).just_0.1 (
    refl,
    (
      omega (arith, h.range_a),
      omega (arith, h.range_a),
      omega (arith, h.range_a),
      omega (arith, h.range_b),
      omega (arith, h.range_b),
      omega (arith, h.range_b),
    ),
    ((seeding.theorems).seeding _ _ _ _ _ _).just_0.0 reseeds,
  )

  seeds_printable : Printable seeds_line
  unfolding Printable
  seeds_printable = (
    omega (arith, h.range_a),
    omega (arith, h.range_a),
    omega (arith, h.range_a),
    omega (arith, h.range_b),
    omega (arith, h.range_b),
    omega (arith, h.range_b),
  )

-- ---- The job with the registers of a record as seeds

module _ (g : Generator) (h : Sound g) (none : g.waiting ≡ 0) (d b : ℕ) (ys : List Form) (second : jobs.Accepts 2 (sigma d b ∷ ys))
    (room : g.count + length (loop.shots_in ys) ≤ most_count) (follow : Following [] ys) where
  abbrev forms : List Form
  forms = seeds_line g h ∷ sigma d b ∷ ys

  abbrev played : (ℕ → ℤ) → ℤ
  played G = total G (played_shots (setting_of g d b) (loop.shots_in ys))

  after_seeds : Setting
  after_seeds = record { generator = (seed_from g.a g.b).next; distance = d; bearing = b }

  accepts : jobs.Accepts 1 forms
  unfolding jobs.Accepts
  accepts = (seeds_printable g h, seeds_accepted g h, second)

  shots : Shots ys
  unfolding jobs.Accepts
  shots = later_shots ys 3 (omega arith) second.2

  few : 2 + length ys ≤ most_shots + 2
  unfolding jobs.Accepts
  few = omega (arith, few_lines ys 3 (omega arith) second.2)

  sigmas : Steady d b
  unfolding jobs.Accepts
  sigmas = let (p, q) = sigma_within 2 d b second.1 in record { sigma_distance = p; sigma_bearing = q }

  count : length (noisy_rows after_seeds ys) ≡ jobs.shots forms
  unfolding jobs.shots jobs.is_shot
  count = let (p, q) = rows_count ys after_seeds shots in omega (arith, p, q)

  listing : job.job_of (jobs.text_of forms) ≡ job.listed (listings.text_of false (noisy_rows after_seeds ys))
  unfolding jobs.rows job.printed setting_on job.setting_after listings.text_of header_of after_seeds
  listing =
      (jobLaws.theorems).listed_job forms accepts (omega arith) (omega (arith, text_short forms 1 accepts, few))
      ∙ rw (count, ← rows_printed ys after_seeds shots)

  its_miss : (bytes : List ℕ) × (job.job_of (jobs.text_of forms) ≡ job.listed bytes)
      × (miss_of (listing_of false bytes) ≡ record {
        code = 0;
        line = 0;
        east = played sine;
        north = played cosine;
        easting = rounded (played sine);
        northing = rounded (played cosine);
      })
  unfolding miss_of after_seeds
  its_miss =
      let (rows, _) = rows_count ys after_seeds shots in
      let reads = (listingLaws.theorems).accepted_listing false (noisy_rows after_seeds ys) (rows_linked ys after_seeds [] shots sigmas follow) (omega (arith, rows, few)) in
      let fresh-is = (seeded g.a g.b h.range_a h.range_b (reseeds g h)).0 in
      let same : low_shots (listings.spans_in (noisy_rows after_seeds ys)) ≡ played_shots (setting_of g d b) (loop.shots_in ys) = rows_played ys after_seeds shots
      ∙ ap (λ (x : Generator). played_shots (setting_of x d b) (loop.shots_in ys)) fresh-is
      ∙ sym (same_play g h (loop.shots_in ys) d b none room) in
      (listings.text_of false (noisy_rows after_seeds ys), listing, ap miss_of reads ∙ rw same)

-- ---- Play j

module _ (plays j : ℕ) (more : j < plays) where
  -- of the lines of a job: a first line, the sigmas and the shots
  in_order_lem : (g : Generator) (d b : ℕ) (x : Form) (ys : List Form) → Printable x → jobs.Accepts 2 (sigma d b ∷ ys)
      → loop.unlinked_line 3 [] ys ≡ 0 → Ready (setting_of g d b) (loop.shots_in ys) → count_code g (plays * length (loop.shots_in ys)) ≡ 0
      → IsMisclosure (jobs.text_of (x ∷ sigma d b ∷ ys)) (setting_of g d b) (loop.shots_in ys) j
  unfolding jobs.Accepts jobs.text_of sum_at
  in_order_lem g d b x ys printable second linked prepared full =
      let n = length (loop.shots_in ys) in
      let up : j + 1 ≤ plays = omega (arith, more) in
      let least : j * n + n ≤ plays * n = omega (arith, mul-le-mul up (le_refl n)) in
      let room : g.count + plays * n ≤ most_count = (count_room g (plays * n)).0 full in
      let moved-is = after_moved (j * n) g prepared.sound prepared.none (omega (arith, room, least)) in
      let follow = (linked_follow ys 3 [] (later_shots ys 3 (omega arith) second.2) (omega arith)).0 linked in
      rw (after_first x (sigma d b ∷ ys) printable, moved-is)
      (its_miss _ (moved_sound (j * n) g prepared.sound) prepared.none d b ys second (omega (arith, room, least)) follow)

  Holds : List Form → Type 0
  Holds xs = loop.unlinked_line 1 [] xs ≡ 0 → Ready (loop.setting_in start xs) (loop.shots_in xs)
      → count_code (loop.setting_in start xs).generator (plays * length (loop.shots_in xs)) ≡ 0
      → IsMisclosure (jobs.text_of xs) (loop.setting_in start xs) (loop.shots_in xs) j

  held : (a0 a1 a2 b0 b1 b2 d b : ℕ) (ys : List Form) → jobs.Accepts 1 (seeds a0 a1 a2 b0 b1 b2 ∷ sigma d b ∷ ys)
      → Holds (seeds a0 a1 a2 b0 b1 b2 ∷ sigma d b ∷ ys)
  unfolding Holds jobs.Accepts loop.unlinked_line loop.link_code loop.station_after loop.setting_in loop.shots_in setting_on
  held a0 a1 a2 b0 b1 b2 d b ys a linked prepared full =
      let x = seeds a0 a1 a2 b0 b1 b2 in
      let s : Setting = setting_of (seed_of a0 a1 a2 b0 b1 b2).next d b in
      let kept = setting_kept ys s (later_shots ys 3 (omega arith) a.2.2) in
      subst
      (λ (t : Setting). Ready t (loop.shots_in ys) → count_code t.generator (plays * length (loop.shots_in ys)) ≡ 0
      → IsMisclosure (jobs.text_of (x ∷ sigma d b ∷ ys)) t (loop.shots_in ys) j)
      (sym kept) (in_order_lem (seed_of a0 a1 a2 b0 b1 b2).next d b x ys a.0 a.2 linked) prepared full

-- a call that is accepted: its loop, and room for all its plays
module _ (text : List ℕ) (plays : ℕ) (s : Setting) (l : List Shot) where
  by_room : (t : Setting) (m : List Shot) (q : Bool) → eqb (count_code t.generator (plays * length m)) 0 ≡ q
      → ◌≡◌ {A = loop.Outcome} (cond q (loop.accepted t m) (loop.refused 13 0)) (loop.accepted s l)
      → (loop.accepted t m ≡ loop.accepted s l) × (count_code s.generator (plays * length l) ≡ 0)
  by_room t m true p e =
      let (ts, ml) = same_loop t s m l e in
      (e, ap₂ (λ (u : Setting) (k : List Shot). count_code u.generator (plays * length k)) (sym ts) (sym ml) ∙ eqb-true _ 0 p)
  by_room t m false p e = absurd (not_accepted 13 0 s l e)

  playable : (o : loop.Outcome) → room_for plays o ≡ loop.accepted s l → (o ≡ loop.accepted s l) × (count_code s.generator (plays * length l) ≡ 0)
  playable (loop.refused code line) e = absurd (not_accepted code line s l e)
  playable (loop.accepted t m) e = by_room t m _ refl e

  with_room : (o : loop.Outcome) → o ≡ loop.accepted s l → count_code s.generator (plays * length l) ≡ 0 → room_for plays o ≡ loop.accepted s l
  with_room o e r = rw (e, r)

play_is : (text : List ℕ) (first runs j : ℕ) (s : Setting) (l : List Shot) → play_of text first runs ≡ loop.accepted s l → j < first + runs
    → IsMisclosure text s l j
unfolding play_of Holds
play_is text first runs j s l e more =
    let (is_Loop, room) = playable text (first + runs) s l (loop.loop_of text) e in
    let w = says text s l is_Loop in
    let whole : Holds (first + runs) j more w.forms = by_heads (Holds (first + runs) j more) (held (first + runs) j more) w.forms w.accepts w.enough in
    carried text (jobs.text_of w.forms) s _ l _ w.said w.setting w.shots (ready text s l is_Loop) room (whole w.linked)
  where
    carried : (text other : List ℕ) (s t : Setting) (l m : List Shot) → other ≡ text → t ≡ s → m ≡ l → Ready s l
        → count_code s.generator ((first + runs) * length l) ≡ 0
        → (Ready t m → count_code t.generator ((first + runs) * length m) ≡ 0 → IsMisclosure other t m j) → IsMisclosure text s l j
    carried text other s t l m p q r prepared room h =
        subst (λ (u : List ℕ). IsMisclosure u s l j) p
        (subst (λ (k : List Shot). Ready s k → count_code s.generator ((first + runs) * length k) ≡ 0 → IsMisclosure other s k j) r
        (subst (λ (u : Setting). Ready u m → count_code u.generator ((first + runs) * length m) ≡ 0 → IsMisclosure other u m j) q h) prepared room)

-- of the lines of a job: its own seeds are those of its record
Own : List Form → Type 0
Own xs = reseeded (jobs.text_of xs) (loop.setting_in start xs).generator ≡ jobs.text_of xs

own_heads : (a0 a1 a2 b0 b1 b2 d b : ℕ) (ys : List Form) → jobs.Accepts 1 (seeds a0 a1 a2 b0 b1 b2 ∷ sigma d b ∷ ys)
    → Own (seeds a0 a1 a2 b0 b1 b2 ∷ sigma d b ∷ ys)
unfolding Own jobs.Accepts jobs.text_of loop.setting_in setting_on
own_heads a0 a1 a2 b0 b1 b2 d b ys a =
    let s : Setting = setting_of (seed_of a0 a1 a2 b0 b1 b2).next d b in
    rw (setting_kept ys s (later_shots ys 3 (omega arith) a.2.2), (seeds_sound a0 a1 a2 b0 b1 b2 a.1).0, after_first (seeds a0 a1 a2 b0 b1 b2) (sigma d b ∷ ys) a.0)

own_seeds : (text : List ℕ) (first runs : ℕ) (s : Setting) (l : List Shot) → play_of text first runs ≡ loop.accepted s l → reseeded text s.generator ≡ text
unfolding play_of Own
own_seeds text first runs s l e =
    let w = says text s l (playable text (first + runs) s l (loop.loop_of text) e).0 in
    let own : Own w.forms = by_heads Own own_heads w.forms w.accepts w.enough in
    rw (w.said, w.setting) at own

-- each element is the miss of the play of that number
element : (s : Setting) (l : List Shot) (first runs i : ℕ) → i < runs → get_or (misses_from first runs s l) i [] ≡ miss_at s l (first + i)
unfolding misses_from
element s l first zero i h = absurd (omega arith)
element s l first (suc runs) zero h = let z : first ≡ first + 0 = omega arith in ap (miss_at s l) z
element s l first (suc runs) (suc i) h =
    let z : suc first + i ≡ first + suc i = omega arith in
    element s l (suc first) runs i (omega arith) ∙ ap (miss_at s l) z

-- ---- Refusals

refused_loop : (text : List ℕ) (first runs code line : ℕ) → loop.loop_of text ≡ loop.refused code line → play_of text first runs ≡ loop.refused code line
unfolding play_of
refused_loop text first runs code line e = rw e

just_13 : (text : List ℕ) (first : ℕ) (old : List (List ℤ)) (s : Setting) (l : List Shot) → loop.loop_of text ≡ loop.accepted s l
    → (code_of text first old ≡ 13) ↔ (18446744073709551615 < (first + length old) * length l)
unfolding play_of
just_13 text first old s l e = rw (code_of, play_of, e) (by_test ((first + length old) * length l) _ refl)
  where
    by_test : (n : ℕ) (q : Bool) → eqb (count_code s.generator n) 0 ≡ q
        → ((answer_of (cond q (loop.accepted s l) (loop.refused 13 0))).code ≡ 13) ↔ (most_count < n)
    by_test n true p = (
      λ z. absurd (omega (arith, z)),
      λ more. absurd (omega (arith, more, (count_room s.generator n).0 (eqb-true _ 0 p))),
    )
    by_test n false p =
        let nothing = (ready text s l e).nothing in
        (λ _. lt_of_not-le (λ (few : n ≤ most_count). eqb-false _ 0 p ((count_room s.generator n).1 (omega (arith, few, nothing)))), λ _. refl)

-- ---- Plays joined

-- an answer of 0 is that of an accepted loop
code_0 : (text : List ℕ) (first : ℕ) (old : List (List ℤ)) → code_of text first old ≡ 0
    → (s : Setting) × ((l : List Shot) × (play_of text first (length old) ≡ loop.accepted s l))
unfolding play_of
code_0 text first old e = by_loop (loop.loop_of text) refl e
  where
    by_room : (s : Setting) (l : List Shot) (q : Bool)
        → (answer_of (cond q (loop.accepted s l) (loop.refused 13 0))).code ≡ 0
        → (t : Setting) × ((m : List Shot) × (cond q (loop.accepted s l) (loop.refused 13 0) ≡ loop.accepted t m))
    by_room s l true e = (s, (l, refl))
    by_room s l false e = absurd (omega (arith, e))

    by_loop : (o : loop.Outcome) → loop.loop_of text ≡ o → (answer_of (room_for (first + length old) o)).code ≡ 0
        → (s : Setting) × ((l : List Shot) × (room_for (first + length old) o ≡ loop.accepted s l))
    by_loop (loop.refused code line) p e = absurd (omega (arith, refused_code text code line p, e))
    by_loop (loop.accepted s l) p e = by_room s l (eqb (count_code s.generator ((first + length old) * length l)) 0) e

joined : (text : List ℕ) (first : ℕ) (x y : List (List ℤ)) → code_of text first (x ++ y) ≡ 0
    → (code_of text first x ≡ 0) × (code_of text (first + length x) y ≡ 0)
    × (leaves text first (x ++ y) ≡ leaves text first x ++ leaves text (first + length x) y)
unfolding play_of
joined text first x y e =
    let (s, (l, whole)) = code_0 text first (x ++ y) e in
    let (is_Loop, full) = playable text (first + length (x ++ y)) s l (loop.loop_of text) whole in
    let n = length-append x y in
    let k = length l in
    let room = (count_room s.generator ((first + length (x ++ y)) * k)).0 full in
    let most : (first + length x) * k ≤ (first + length (x ++ y)) * k = mul-le-mul_right k (omega (arith, n)) in
    let rest : (first + length x + length y) * k ≡ (first + length (x ++ y)) * k = ap (λ (m : ℕ). m * k) (omega (arith, n)) in
    let one : play_of text first (length x) ≡ loop.accepted s l = with_room text (first + length x) s l (loop.loop_of text) is_Loop ((count_room s.generator ((first + length x) * k)).1 (omega (arith, room, most))) in
    let two : play_of text (first + length x) (length y) ≡ loop.accepted s l = with_room text (first + length x + length y) s l (loop.loop_of text) is_Loop ((count_room s.generator ((first + length x + length y) * k)).1 (omega (arith, room, rest))) in (
      ap (λ (o : loop.Outcome). (answer_of o).code) one,
      ap (λ (o : loop.Outcome). (answer_of o).code) two,
      ap (λ (o : loop.Outcome). misses_after o first (x ++ y)) whole
          ∙ ap (λ (m : ℕ). misses_from first m s l) n
          ∙ misses_joined (length x) (length y) first s l
          ∙ sym (ap₂ (λ (o p : loop.Outcome). misses_after o first x ++ misses_after p (first + length x) y) one two),
    )

pub theorems : Theorems
theorems = record { element = element; play_is = play_is; own_seeds = own_seeds; refused_loop = refused_loop; just_13 = just_13; joined = joined }
