-- A loop half way: one line more.
use Prim.Native.Nat.{ℕ, ◌+◌, ◌-◌, ◌≤◌}
use native.Mathlib.Omega.{arith}
use native.Mathlib.Nat.{zero-add}
use mathlib.Core.Path.{◌≡◌, refl, sym, ap, ◌∙◌}
use mathlib.Core.Bool.{Bool, true, false, cond, true≢false}
use mathlib.Core.List.{List, [], ◌∷◌, map}
use lib.Dec.{eqb}
use lib.ListN.{length, length-set}
use borrow.Author.Tests.{eq-eqb, ne_eqb, eqb-true, ltb-false, not-false}
use Rattle.std.specs.Prelude.{Option, Some, None, IfSome, Result, Err}
use Rattle.job_lines.specs.Forms.{Form, seeds, sigma, shot, no_form, read_line}
use Rattle.job_reader.specs.Refusals.{formless, misplaced, refusal, number_of, first_bad}
use Rattle.job_reader.proofs.Accepted.{accepted_line}
use Rattle.job_reader.specs.Setting.{start, setting_on, begun, Refuses}
use Rattle.job_reader.specs.declared.walk.Progress.{Progress}
use Rattle.job_reader.specs.Loop as loop
use Rattle.job_reader.specs.Private.{first_unlinked, Keeps, or_ahead, Going, linked_of, ended_of, ended_in, Ended}
use Rattle.job_reader.specs.declared.refusals.BadLine.{BadLine}
use Rattle.job_reader.specs.declared.loops.LoopShot.{LoopShot}
use Rattle.job_reader.specs.declared.shot.State.{State}
use Rattle.job_reader.proofs.FirstBad.{refused_lem, reading_start, reading_on, reading_off}
use Rattle.job_reader.specs.declared.loops.Loop.{Loop}
use Rattle.job_reader.proofs.Refused.{number_positive}

-- one line that says x
unlinked_step : (x : Form) (xs : List Form) (k : ℕ) (station : List ℕ) (u : Option ℕ)
    → or_ahead u (loop.unlinked_line k station (x ∷ xs))
    ≡ or_ahead (first_unlinked u k (loop.link_code station x)) (loop.unlinked_line (k + 1) (loop.station_after x) xs)
unfolding loop.unlinked_line first_unlinked
unlinked_step x xs k station (Some u) = refl
unlinked_step x xs k station None = go (eqb (loop.link_code station x) 0)
  where
    go : (f : Bool) → ◌≡◌ {A = ℕ} (cond f (loop.unlinked_line (k + 1) (loop.station_after x) xs) k)
        (or_ahead (cond f None (Some k)) (loop.unlinked_line (k + 1) (loop.station_after x) xs))
    go true = refl
    go false = refl

unlinked_positive : (u : Option ℕ) (k link : ℕ) → 1 ≤ k → IfSome u (λ n. 1 ≤ n) → IfSome (first_unlinked u k link) (λ n. 1 ≤ n)
unfolding first_unlinked
unlinked_positive (Some n) k link low h = h
unlinked_positive None k link low h = go (eqb link 0)
  where
    go : (f : Bool) → IfSome (cond {A = Option ℕ} f None (Some k)) (λ n. 1 ≤ n)
    go true = tt
    go false = low

-- shots are lines 3 and after
count_step : (x : Form) (xs : List Form) (k : ℕ) → refusal k x ≡ 0
    → k - 3 + length (loop.shots_in (x ∷ xs)) ≡ k + 1 - 3 + length (loop.shots_in xs)
unfolding loop.shots_in misplaced formless
count_step (seeds a0 a1 a2 b0 b1 b2) xs k ok =
    omega (arith, eqb-true k 1 (not-false (eqb k 1) (accepted_line k (seeds a0 a1 a2 b0 b1 b2) ok).placed))
count_step (sigma d b) xs k ok = omega (arith, eqb-true k 2 (not-false (eqb k 2) (accepted_line k (sigma d b) ok).placed))
count_step (shot from to d b) xs k ok = omega (arith, ltb-false k 3 (accepted_line k (shot from to d b) ok).placed)
count_step no_form xs k ok = absurd (true≢false (accepted_line k no_form ok).formed)

pub kept_size : (k : ℕ) (x : Form) (memory : List LoopShot) → length (loop.kept_on k x memory) ≡ length memory
unfolding loop.kept_on
kept_size k (seeds a0 a1 a2 b0 b1 b2) memory = refl
kept_size k (sigma d b) memory = refl
kept_size k (shot from to d b) memory = length-set memory (k - 3) (record { distance = d; bearing = b })
kept_size k no_form memory = refl

module _ (k : ℕ) (x : Form) (xs : List Form) (memory : List LoopShot) where
  pub kept_yes : refusal k x ≡ 0 → loop.kept_from k (x ∷ xs) memory ≡ loop.kept_from (k + 1) xs (loop.kept_on k x memory)
  unfolding loop.kept_from
  kept_yes h = rw (eq-eqb (refusal k x) 0 h)

  kept_no : (refusal k x ≡ 0 → ⊥) → loop.kept_from k (x ∷ xs) memory ≡ memory
  unfolding loop.kept_from
  kept_no h = rw (ne_eqb (refusal k x) 0 h)

-- one line more, or the one that is bad
module _ (all left after : List (List ℕ)) (l : List ℕ) (old memory new : List LoopShot) (s : State) (g : Going all left old memory s) (e : left ≡ l ∷ after) where
  abbrev x : Form
  x = read_line l

  abbrev k : ℕ
  k = s.read.line

  pub line_on : (t : State) → Keeps x s t memory new → Going all after old new t
  unfolding loop.setting_in
  line_on t n =
      let line : t.read.line ≡ k + 1 = ap (λ (p : Progress). p.line) n.read in
      let setting : t.read.setting ≡ setting_on x s.read.setting = ap (λ (p : Progress). p.setting) n.read in
      record {
        reading = reading_on all left after l s.read g.reading e t.read n.accepted line;
        setting = g.setting ∙ rw (e, setting);
        unlinked = g.unlinked ∙ rw e (unlinked_step x (map read_line after) k _ s.unlinked ∙ rw (n.unlinked, line, n.next));
        positive = rw n.unlinked (unlinked_positive s.unlinked k _ g.reading.low g.positive);
        count = g.count ∙ rw e (count_step x (map read_line after) k n.accepted ∙ rw line);
        size = ap length n.memory ∙ kept_size k x memory ∙ g.size;
        kept = g.kept ∙ rw e (kept_yes k x (map read_line after) memory n.accepted ∙ rw (line, n.memory));
      }

  pub line_off : (bad : BadLine) → Refuses k x bad → new ≡ memory → Ended all old new (Err bad)
  unfolding loop.answer_of
  line_off bad off kept = record {
    size = ap length kept ∙ g.size;
    memory = kept ∙ sym (g.kept ∙ rw e (kept_no k x (map read_line after) memory (refused_lem k x bad off)));
    answer = rw (reading_off all left after l s.read g.reading e bad off, ne_eqb (number_of bad.cause) 0 (number_positive bad.cause));
  }

-- before line 1
pub at_start : (all : List (List ℕ)) (memory : List LoopShot) (s : State) → s.read ≡ begun → s.station.now ≡ [] → s.unlinked ≡ None → Going all all memory memory s
unfolding begun
at_start all memory s e none linked = record {
  reading = reading_start all s.read e;
  setting = rw e;
  unlinked = rw (e, none, linked);
  positive = rw linked tt;
  count = rw e (sym (zero-add _));
  size = refl;
  kept = rw e;
}

-- all lines are accepted
module _ (all : List (List ℕ)) (old new : List LoopShot) (s : State) (g : Going all [] old new s) where
  setting_is : loop.setting_in start (map read_line all) ≡ s.read.setting
  unfolding loop.setting_in
  setting_is = g.setting

  count_is : length (loop.shots_in (map read_line all)) ≡ s.read.line - 3
  unfolding loop.shots_in
  count_is = omega (arith, g.count)

  unlinked_is : loop.unlinked_line 1 [] (map read_line all) ≡ or_ahead s.unlinked 0
  unfolding loop.unlinked_line
  unlinked_is = g.unlinked

  linked_is : linked_of s.unlinked s.read
      ≡ loop.answer_of (cond (eqb (or_ahead s.unlinked 0) 0) (loop.accepted (loop.setting_in start (map read_line all)) (loop.shots_in (map read_line all))) (loop.refused 23 (or_ahead s.unlinked 0)))
  unfolding loop.answer_of
  linked_is = go s.unlinked g.positive
    where
      go : (u : Option ℕ) → IfSome u (λ n. 1 ≤ n) → linked_of u s.read
          ≡ loop.answer_of (cond (eqb (or_ahead u 0) 0) (loop.accepted (loop.setting_in start (map read_line all)) (loop.shots_in (map read_line all))) (loop.refused 23 (or_ahead u 0)))
      go (Some n) low = rw (ne_eqb n 0 (λ z. omega (arith, low, z)))
      go None low = rw (setting_is, count_is)

  pub all_taken : (r : Result Loop BadLine) → ended_in r ≡ ended_of s.read s.unlinked → Ended all old new r
  unfolding ended_of loop.kept_from
  all_taken r h = record {
    size = g.size;
    memory = sym g.kept;
    answer = h ∙ rw (g.reading.ahead, unlinked_is) (go (eqb (first_bad s.read.line []).code 0));
  }
    where
      go : (q : Bool) → cond q (linked_of s.unlinked s.read) (loop.answer_of (loop.refused (first_bad s.read.line []).code (first_bad s.read.line []).line))
          ≡ loop.answer_of (cond q (cond (eqb (or_ahead s.unlinked 0) 0) (loop.accepted (loop.setting_in start (map read_line all)) (loop.shots_in (map read_line all))) (loop.refused 23 (or_ahead s.unlinked 0)))
          (loop.refused (first_bad s.read.line []).code (first_bad s.read.line []).line))
      go true = linked_is
      go false = refl
