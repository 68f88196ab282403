-- The lines of an accepted job: seeds, sigmas and shots, and the shots in the caller's memory.
use Prim.Native.Nat.{ℕ, suc, ◌+◌, ◌-◌, ◌≤◌, ◌<◌}
use native.Mathlib.Omega.{arith}
use mathlib.Core.Path.{◌≡◌, refl, sym, ap, ap₂, ◌∙◌}
use mathlib.Core.Bool.{true, true≢false}
use mathlib.Core.List.{List, [], ◌∷◌, ◌++◌, map, append-nil, append_assoc}
use lib.Dec.{eqb}
use lib.ListN.{length, take, set, length-set}
use lib.Seq.{take-suc-set}
use borrow.Author.Tests.{eqb-true, not-false}
use Rattle.text.specs.Fields.{name}
use Rattle.job_lines.specs.Forms.{Form, seeds, sigma, shot, no_form, read_line, print_line, Printable}
use Rattle.job_lines.proofs.RoundTrip.{read_printed}
use Rattle.job_reader.specs.Limits.{last_line, most_distance, most_bearing}
use Rattle.job_reader.specs.Refusals.{formless, misplaced}
use Rattle.job_reader.proofs.Accepted.{accepted_line, line_few, shot_within}
use Rattle.job_reader.specs.Setting.{setting_on}
use Rattle.job.specs.Theorems.{text_of, Accepts}
use Rattle.job_reader.specs.declared.walk.Setting.{Setting}
use Rattle.job.proofs.Jobs.{lines_text}
use Rattle.job_reader.specs.Loop as loop
use Rattle.job_reader.specs.declared.loops.LoopShot.{LoopShot}
use Rattle.job_reader.proofs.Going.{kept_yes}

-- the forms of the text that says forms
read_all : (xs : List Form) (k : ℕ) → Accepts k xs → map read_line (map print_line xs) ≡ xs
unfolding Accepts
read_all [] k a = refl
read_all (x ∷ xs) k a = ap₂ (λ (y : Form) (ys : List Form). y ∷ ys) (read_printed x a.0) (read_all xs (k + 1) a.2)

pub forms_read : (xs : List Form) → Accepts 1 xs → loop.forms_of (text_of xs) ≡ xs
forms_read xs a = ap (map read_line) (lines_text 1 xs a) ∙ read_all xs 1 a

-- lines that are shots alone
unfoldable pub Shots : List Form → Type 0
Shots [] = Unit {0}
Shots (shot from to d b ∷ xs) = (name from ≡ true) × (name to ≡ true) × (d ≤ most_distance) × (b ≤ most_bearing) × Shots xs
Shots (seeds a0 a1 a2 b0 b1 b2 ∷ xs) = ⊥
Shots (sigma d b ∷ xs) = ⊥
Shots (no_form ∷ xs) = ⊥

-- the lines of a job from the third on are such
pub later_shots : (xs : List Form) (k : ℕ) → 3 ≤ k → Accepts k xs → Shots xs
unfolding Shots Accepts misplaced formless Printable
later_shots [] k h a = tt
later_shots (shot from to d b ∷ xs) k h a =
    let (far, turn) = shot_within k from to d b a.1 in
    (a.0.0, a.0.1, far, turn, later_shots xs (k + 1) (omega arith) a.2)
later_shots (seeds a0 a1 a2 b0 b1 b2 ∷ xs) k h a =
    absurd (omega (arith, h, eqb-true k 1 (not-false (eqb k 1) (accepted_line k (seeds a0 a1 a2 b0 b1 b2) a.1).placed)))
later_shots (sigma d b ∷ xs) k h a = absurd (omega (arith, h, eqb-true k 2 (not-false (eqb k 2) (accepted_line k (sigma d b) a.1).placed)))
later_shots (no_form ∷ xs) k h a = absurd (true≢false (accepted_line k no_form a.1).formed)

pub few_lines : (xs : List Form) (k : ℕ) → k ≤ last_line + 1 → Accepts k xs → k + length xs ≤ last_line + 1
unfolding Accepts
few_lines [] k m a = omega (arith, m)
few_lines (x ∷ xs) k m a = omega (arith, few_lines xs (k + 1) (omega (arith, line_few k x a.1)) a.2)

pub shots_count : (xs : List Form) → Shots xs → length (loop.shots_in xs) ≡ length xs
unfolding Shots loop.shots_in
shots_count [] h = refl
shots_count (shot from to d b ∷ xs) h = ap suc (shots_count xs h.4)
shots_count (seeds a0 a1 a2 b0 b1 b2 ∷ xs) h = absurd h
shots_count (sigma d b ∷ xs) h = absurd h
shots_count (no_form ∷ xs) h = absurd h

-- shots leave the setting
pub setting_kept : (xs : List Form) (s : Setting) → Shots xs → loop.setting_in s xs ≡ s
unfolding Shots loop.setting_in setting_on
setting_kept [] s h = refl
setting_kept (shot from to d b ∷ xs) s h = setting_kept xs s h.4
setting_kept (seeds a0 a1 a2 b0 b1 b2 ∷ xs) s h = absurd h
setting_kept (sigma d b ∷ xs) s h = absurd h
setting_kept (no_form ∷ xs) s h = absurd h

-- and stand in the memory from their place on
pub kept_shots : (xs : List Form) (k : ℕ) (memory : List LoopShot) → 3 ≤ k → Accepts k xs → k - 3 + length xs ≤ length memory
    → take (k - 3 + length xs) (loop.kept_from k xs memory) ≡ take (k - 3) memory ++ map loop.kept_shot (loop.shots_in xs)
unfolding Accepts loop.kept_from loop.kept_on loop.shots_in Shots
kept_shots [] k memory h a room = let n : k - 3 + 0 ≡ k - 3 = omega arith in rw n (sym (append-nil (take (k - 3) memory)))
kept_shots (shot from to d b ∷ xs) k memory h a room =
    let p = loop.kept_shot (record { distance = d; step = b }) in
    let i : k + 1 - 3 ≡ suc (k - 3) = omega (arith, h) in
    let n : k - 3 + suc (length xs) ≡ k + 1 - 3 + length xs = omega (arith, h) in
    let inside : k - 3 < length memory = omega (arith, room) in
    let rest = kept_shots xs (k + 1) (set memory (k - 3) p) (omega (arith, h)) a.2 (omega (arith, room, h, length-set memory (k - 3) p)) in
    rw (n, kept_yes k (shot from to d b) xs memory a.1)
    (rest ∙ rw (i, take-suc-set memory (k - 3) p inside) (append_assoc (take (k - 3) memory) (p ∷ []) (map loop.kept_shot (loop.shots_in xs))))
kept_shots (seeds a0 a1 a2 b0 b1 b2 ∷ xs) k memory h a room = absurd (later_shots (seeds a0 a1 a2 b0 b1 b2 ∷ xs) k h a)
kept_shots (sigma d b ∷ xs) k memory h a room = absurd (later_shots (sigma d b ∷ xs) k h a)
kept_shots (no_form ∷ xs) k memory h a room = absurd (later_shots (no_form ∷ xs) k h a)

-- whatever accepted lines are, two at least, the first is the seeds and the second the sigmas
pub by_heads : (P : List Form → Type 0)
    → ((a0 a1 a2 b0 b1 b2 d b : ℕ) (ys : List Form) → Accepts 1 (seeds a0 a1 a2 b0 b1 b2 ∷ sigma d b ∷ ys) → P (seeds a0 a1 a2 b0 b1 b2 ∷ sigma d b ∷ ys))
    → (xs : List Form) → Accepts 1 xs → 2 ≤ length xs → P xs
unfolding Accepts misplaced formless
by_heads P heads [] a n = absurd (omega (arith, n))
by_heads P heads (x ∷ []) a n = absurd (omega (arith, n))
by_heads P heads (seeds a0 a1 a2 b0 b1 b2 ∷ sigma d b ∷ ys) a n = heads a0 a1 a2 b0 b1 b2 d b ys a
by_heads P heads (seeds a0 a1 a2 b0 b1 b2 ∷ seeds c0 c1 c2 d0 d1 d2 ∷ ys) a n =
    absurd (true≢false (accepted_line 2 (seeds c0 c1 c2 d0 d1 d2) a.2.1).placed)
by_heads P heads (seeds a0 a1 a2 b0 b1 b2 ∷ shot from to d b ∷ ys) a n = absurd (true≢false (accepted_line 2 (shot from to d b) a.2.1).placed)
by_heads P heads (seeds a0 a1 a2 b0 b1 b2 ∷ no_form ∷ ys) a n = absurd (true≢false (accepted_line 2 no_form a.2.1).formed)
by_heads P heads (sigma d b ∷ y ∷ ys) a n = absurd (true≢false (accepted_line 1 (sigma d b) a.1).placed)
by_heads P heads (shot from to d b ∷ y ∷ ys) a n = absurd (true≢false (accepted_line 1 (shot from to d b) a.1).placed)
by_heads P heads (no_form ∷ y ∷ ys) a n = absurd (true≢false (accepted_line 1 no_form a.1).formed)
