-- What is proved of the streams and of the calls on a record. The register laws behind it are in `Register`, once over (k, q, s).
-- Runs of calls are in `noise`, which has all of them.
use mathlib.Core.Path.{◌≡◌, refl, sym, ap, ◌∙◌}
use mathlib.Core.Bool.{Bool, true, false, cond, true≢false, and-eq-true_iff}
use mathlib.Core.List.{[], ◌∷◌}
use mathlib.Core.Logic.{◌↔◌, ◌⊎◌, inl, inr}
use Prim.Native.Nat.{ℕ, zero, suc, ◌+◌, ◌*◌, ◌/◌, ◌%◌, ◌^◌, ◌≤◌, ◌<◌}
use native.Mathlib.Nat.{add-zero, zero-add, suc-add, add_assoc}
use native.Mathlib.Numerals.{add-one}
use native.Mathlib.Omega.{arith}
use lib.Bits.{bit_xor, xor_lt}
use lib.Dec.{leb, eqb}
use borrow.Author.Tests.{leb-true, le-leb, eqb-true}
use Rattle.bit_matrix.specs.Matrices.{repeat}
use Rattle.bit_matrix.proofs.Theorems.{repeat_add}
use Rattle.streams.specs.declared.Stream.{Stream}
use Rattle.streams.specs.declared.Generator.{Generator}
use Rattle.streams.specs.declared.Uniforms.{Uniforms}
use Rattle.streams.specs.Streams.{step, advance, output, fit, fresh, cleared, record_code, open_code, most_count, count_code, first_cause}
use Rattle.streams.specs.Streams.{Call, note_code, own_code, room_code, code_of, seed_of, pairs_code, uniforms_of, after}
use Rattle.streams.specs.Streams.Call.{a_skip}
use Rattle.streams.specs.Recurrence.{top, sequence, combined, Params, draw_at, moved, seed_from, InRange, Minima, Sound}
use Rattle.streams.proofs.Causes.{lone_cause, accepted_causes, none_open, count_room, count_full}
use Rattle.streams.proofs.Register.{step_lt, history, minimum_kept, one_to_one_reached, top_xor, sequence_starts}
use Rattle.streams.proofs.Register.{sequence_follows}

-- ---- The three registers of a stream are of the family

params0 : Params 31 13 12
params0 = omega arith

params1 : Params 29 2 4
params1 = omega arith

params2 : Params 28 3 17
params2 = omega arith

-- ---- Demand 2: every draw is L'Ecuyer's

-- a register alone, over a run of draws
pub alone : {A : Type 0} (f : A → A) (g : ℕ → ℕ) (p : A → ℕ) → ((x : A) → p (f x) ≡ g (p x)) → (t : ℕ) (x : A)
    → p (repeat f t x) ≡ repeat g t (p x)
unfolding repeat
alone f g p h zero x = refl
alone f g p h (suc t) x = alone f g p h t (f x) ∙ ap (repeat g t) (h x)

-- bit i of the register after t + 1 steps is its sequence's, from place (t + 1) s on
register_history : {k q s : ℕ} → Params k q s → (x : ℕ) → x < 2 ^ 32 → (t i : ℕ) → i < 32
    → top (repeat (step k q s) (suc t) x) i ≡ sequence k q x (suc t * s + i)
register_history {k} {q} P x hx t i hi =
    history P (sequence k q x) (sequence_follows P x) t x hx (sequence_starts P x) i hi

-- L'Ecuyer's combined Tausworthe generator, over the whole history: bit i (from the top) of draw t = 1, 2, .. is the exclusive-or
-- of the bits 12 t + i, 4 t + i and 17 t + i of the sequences of z^31 - z^13 - 1, z^29 - z^2 - 1 and z^28 - z^3 - 1.
pub stream_history : (u : Stream) → InRange u → (t i : ℕ) → i < 32 → top (draw_at u (suc t)) i ≡ combined u (suc t) i
unfolding draw_at output combined
stream_history u h t i hi =
    let v : Stream = repeat advance (suc t) u in
    let r0 : top v.s0 i ≡ sequence 31 13 u.s0 (suc t * 12 + i)
    = ap (λ (x : ℕ). top x i) (alone advance (step 31 13 12) (λ w. w.s0) (λ w. unfold advance in refl) (suc t) u)
    ∙ register_history params0 u.s0 h.s0_range t i hi in
    let r1 : top v.s1 i ≡ sequence 29 2 u.s1 (suc t * 4 + i)
    = ap (λ (x : ℕ). top x i) (alone advance (step 29 2 4) (λ w. w.s1) (λ w. unfold advance in refl) (suc t) u)
    ∙ register_history params1 u.s1 h.s1_range t i hi in
    let r2 : top v.s2 i ≡ sequence 28 3 u.s2 (suc t * 17 + i)
    = ap (λ (x : ℕ). top x i) (alone advance (step 28 3 17) (λ w. w.s2) (λ w. unfold advance in refl) (suc t) u)
    ∙ register_history params2 u.s2 h.s2_range t i hi in
    top_xor (bit_xor v.s0 v.s1) v.s2 i ∙ rw (top_xor v.s0 v.s1 i, r0, r1, r2) (omega arith)

-- ---- Which record is accepted

-- A stream is fit where its registers have their minima, 2, 8 and 16.
pub fit_minima : (u : Stream) → (fit u ≡ true) ↔ Minima u
unfolding fit
fit_minima u = (
  λ h.
      let (p, r) = (and-eq-true_iff (leb _ u.s0) _).0 h in
      let (q, w) = (and-eq-true_iff (leb _ u.s1) _).0 r in
      omega (arith, leb-true _ u.s0 p, leb-true _ u.s1 q, leb-true _ u.s2 w),
  λ m.
      (and-eq-true_iff (leb _ u.s0) _).1 (
        le-leb _ u.s0 (omega (arith, m.s0_least)),
        (and-eq-true_iff (leb _ u.s1) _).1 (le-leb _ u.s1 (omega (arith, m.s1_least)), le-leb _ u.s2 (omega (arith, m.s2_least))),
      ),
)

-- The refusal code of any record is one of these, by which of its streams are fit.
abbrev code_by : Bool → Bool → ℕ
code_by a b = cond a (cond b 0 12) 11

both_fit : (a b : Bool) → code_by a b ≡ 0 → (a ≡ true) × (b ≡ true)
both_fit true true e = (refl, refl)
both_fit true false e = absurd (omega (arith, e))
both_fit false b e = absurd (omega (arith, e))

-- A record is accepted where both of its streams are fit.
pub accepted_minima : (g : Generator) → (record_code g ≡ 0) ↔ (Minima g.a × Minima g.b)
unfolding record_code
accepted_minima g = (
  λ h.
      let (p, q) = both_fit (fit g.a) (fit g.b) h in
      ((fit_minima g.a).0 p, (fit_minima g.b).0 q),
  λ m. rw ((fit_minima g.a).1 m.0, (fit_minima g.b).1 m.1),
)

pub record_cases : (P : ℕ → Type 0) (g : Generator) → P 0 → P 11 → P 12 → P (record_code g)
unfolding record_code
record_cases P g accepted unfit_a unfit_b = by_tests (fit g.a) (fit g.b)
  where
    by_tests : (a b : Bool) → P (code_by a b)
    by_tests true true = accepted
    by_tests true false = unfit_b
    by_tests false b = unfit_a

fit_or_not : (u : Stream) → ((fit u ≡ true) × Minima u) ⊎ ((fit u ≡ false) × (Minima u → ⊥))
fit_or_not u = by_test (fit u) refl
  where
    by_test : (t : Bool) → fit u ≡ t → ((fit u ≡ true) × Minima u) ⊎ ((fit u ≡ false) × (Minima u → ⊥))
    by_test true e = inl (e, (fit_minima u).0 e)
    by_test false e = inr (e, λ m. true≢false (sym ((fit_minima u).1 m) ∙ e))

-- 11 just where a register of a is below its minimum; 12 just where a is fit and a register of b is below.
pub code_a : (g : Generator) → (record_code g ≡ 11) ↔ (Minima g.a → ⊥)
unfolding record_code
code_a g = by_fit (fit_or_not g.a) (fit g.b) refl
  where
    by_fit : ((fit g.a ≡ true) × Minima g.a) ⊎ ((fit g.a ≡ false) × (Minima g.a → ⊥)) → (b : Bool) → fit g.b ≡ b
        → (record_code g ≡ 11) ↔ (Minima g.a → ⊥)
    by_fit (inl (e, m)) true f = (λ h. absurd (omega (arith, rw (record_code, e, f) at h)), λ n. absurd (n m))
    by_fit (inl (e, m)) false f = (λ h. absurd (omega (arith, rw (record_code, e, f) at h)), λ n. absurd (n m))
    by_fit (inr (e, n)) b f = (λ h. n, λ h. rw (record_code, e))

pub code_b : (g : Generator) → (record_code g ≡ 12) ↔ (Minima g.a × (Minima g.b → ⊥))
unfolding record_code
code_b g = by_fit (fit_or_not g.a) (fit_or_not g.b)
  where
    by_fit : ((fit g.a ≡ true) × Minima g.a) ⊎ ((fit g.a ≡ false) × (Minima g.a → ⊥))
        → ((fit g.b ≡ true) × Minima g.b) ⊎ ((fit g.b ≡ false) × (Minima g.b → ⊥))
        → (record_code g ≡ 12) ↔ (Minima g.a × (Minima g.b → ⊥))
    by_fit (inl (e, m)) (inl (f, p)) = (λ h. absurd (omega (arith, rw (record_code, e, f) at h)), λ n. absurd (n.1 p))
    by_fit (inl (e, m)) (inr (f, p)) = (λ h. (m, p), λ h. rw (record_code, e, f))
    by_fit (inr (e, n)) y = (λ h. absurd (omega (arith, rw (record_code, e) at h)), λ h. absurd (n h.0))

-- 2, 8 and 16 are accepted, and one below in any of the six registers is not; where both streams are unfit, a is named.
abbrev registers : ℕ → ℕ → ℕ → ℕ → ℕ → ℕ → Generator
registers a0 a1 a2 b0 b1 b2 = fresh (record { s0 = a0; s1 = a1; s2 = a2 }) (record { s0 = b0; s1 = b1; s2 = b2 })

pub edges : (record_code (registers 2 8 16 2 8 16) ≡ 0)
    × (record_code (registers 1 8 16 2 8 16) ≡ 11)
    × (record_code (registers 2 7 16 2 8 16) ≡ 11)
    × (record_code (registers 2 8 15 2 8 16) ≡ 11)
    × (record_code (registers 2 8 16 1 8 16) ≡ 12)
    × (record_code (registers 2 8 16 2 7 16) ≡ 12)
    × (record_code (registers 2 8 16 2 8 15) ≡ 12)
    × (record_code (registers 1 8 16 1 8 16) ≡ 11)
unfolding record_code fit
edges = (refl, refl, refl, refl, refl, refl, refl, refl)

-- ---- Accepted stays accepted

advance_range : (u : Stream) → InRange u → InRange (advance u)
unfolding advance
advance_range u h =
    record {
      s0_range = step_lt 31 13 12 u.s0 h.s0_range;
      s1_range = step_lt 29 2 4 u.s1 h.s1_range;
      s2_range = step_lt 28 3 17 u.s2 h.s2_range;
    }

advance_minima : (u : Stream) → InRange u → Minima u → Minima (advance u)
unfolding advance
advance_minima u h m =
    record {
      s0_least = minimum_kept params0 u.s0 h.s0_range m.s0_least;
      s1_least = minimum_kept params1 u.s1 h.s1_range m.s1_least;
      s2_least = minimum_kept params2 u.s2 h.s2_range m.s2_least;
    }

pub sound : (g : Generator) → InRange g.a → InRange g.b → record_code g ≡ 0 → Sound g
sound g ra rb h =
    let (ma, mb) = (accepted_minima g).0 h in
    record { range_a = ra; range_b = rb; minima_a = ma; minima_b = mb }

pub sound_accepted : (g : Generator) → Sound g → record_code g ≡ 0
sound_accepted g h = (accepted_minima g).1 (h.minima_a, h.minima_b)

-- The note says nothing of the streams.
pub sound_cleared : (g : Generator) → Sound g ↔ Sound (cleared g)
sound_cleared g = (
  λ h. record { range_a = h.range_a; range_b = h.range_b; minima_a = h.minima_a; minima_b = h.minima_b },
  λ h. record { range_a = h.range_a; range_b = h.range_b; minima_a = h.minima_a; minima_b = h.minima_b },
)

-- A record that seeding accepts is the one of its six numbers, and its streams are fit.
pub seeded : (a b : Stream) → InRange a → InRange b → (seed_from a b).code ≡ 0
    → ((seed_from a b).next ≡ fresh a b) × Sound (fresh a b)
unfolding seed_of
seeded a b ra rb h = (rw h, sound (fresh a b) ra rb h)

-- Accepted or refused, it has registers of 32 bits, the count 0 and no request open.
pub seeded_range : (a b : Stream) → InRange a → InRange b
    → InRange (seed_from a b).next.a
    × InRange (seed_from a b).next.b
    × ((seed_from a b).next.count ≡ 0)
    × ((seed_from a b).next.waiting ≡ 0)
    × ((seed_from a b).next.asked ≡ 0)
unfolding seed_of
seeded_range a b ra rb = by_test (eqb (record_code (fresh a b)) 0)
  where
    none : Stream
    none = record { s0 = 0; s1 = 0; s2 = 0 }

    by_test : (t : Bool)
        → InRange (cond t (fresh a b) (fresh none none)).a
        × InRange (cond t (fresh a b) (fresh none none)).b
        × ((cond t (fresh a b) (fresh none none)).count ≡ 0)
        × ((cond t (fresh a b) (fresh none none)).waiting ≡ 0)
        × ((cond t (fresh a b) (fresh none none)).asked ≡ 0)
    by_test true = (ra, rb, refl, refl, refl)
    by_test false = (omega arith, omega arith, refl, refl, refl)

-- however far the streams are moved
repeat_kept : (P : Stream → Type 0) → ((u : Stream) → P u → P (advance u)) → (t : ℕ) (u : Stream) → P u → P (repeat advance t u)
unfolding repeat
repeat_kept P keeps zero u h = h
repeat_kept P keeps (suc t) u h = repeat_kept P keeps t (advance u) (keeps u h)

abbrev Fit : Stream → Type 0
Fit u = InRange u × Minima u

pub moved_range : (n : ℕ) (g : Generator) → InRange g.a → InRange g.b → InRange (moved n g).a × InRange (moved n g).b
moved_range n g ra rb = (repeat_kept InRange advance_range n g.a ra, repeat_kept InRange advance_range n g.b rb)

pub moved_sound : (n : ℕ) (g : Generator) → Sound g → Sound (moved n g)
moved_sound n g h =
    let fit-advance : (u : Stream) → Fit u → Fit (advance u) = λ u w. (advance_range u w.0, advance_minima u w.0 w.1) in
    let fa : Fit (repeat advance n g.a) = repeat_kept Fit fit-advance n g.a (h.range_a, h.minima_a) in
    let fb : Fit (repeat advance n g.b) = repeat_kept Fit fit-advance n g.b (h.range_b, h.minima_b) in
    record { range_a = fa.0; range_b = fb.0; minima_a = fa.1; minima_b = fb.1 }

-- n draws after m are m + n draws, of both streams, and so is the count.
pub moved_add : (m n : ℕ) (g : Generator) → moved n (moved m g) ≡ moved (m + n) g
moved_add m n g =
    λ i.
    record {
      a = repeat_add advance m n g.a i;
      b = repeat_add advance m n g.b i;
      count = add_assoc g.count m n i;
      waiting = g.waiting;
      asked = g.asked;
    }

-- ---- The count

-- A call on fit streams is refused for its note, its own arguments or the count, and for nothing else.
pub fit_call : (c : Call) (g : Generator) → Sound g
    → code_of c g ≡ first_cause (note_code c g ∷ own_code c g ∷ room_code c g ∷ [])
unfolding code_of
fit_call c g h = rw (sound_accepted g h)

-- A call for n pairs is accepted just where the streams are fit, the count has room for n and no request is open.
pub pairs_accepted : (g : Generator) (n : ℕ)
    → (pairs_code g n ≡ 0) ↔ ((record_code g ≡ 0) × (g.count + n ≤ most_count) × (g.waiting ≡ 0))
unfolding note_code own_code room_code
pairs_accepted g n = (
  λ h.
      let (fits, note, own, room) = (accepted_causes (a_skip n) g).0 h in
      (fits, (count_room g n).0 room, (none_open g).0 note),
  λ h. (accepted_causes (a_skip n) g).1 (h.0, (none_open g).1 h.2, refl, (count_room g n).1 h.1),
)

-- 13 just where they are fit, no request is open and the count would pass the most.
pub code_count : (g : Generator) (n : ℕ)
    → (pairs_code g n ≡ 13) ↔ ((record_code g ≡ 0) × (g.waiting ≡ 0) × (most_count < g.count + n))
unfolding code_of note_code own_code room_code open_code
code_count g n = (
  λ h. record_cases (λ code. first_cause (code ∷ open_code g ∷ 0 ∷ count_code g n ∷ []) ≡ 13
      → (code ≡ 0) × (g.waiting ≡ 0) × (most_count < g.count + n)) g
      (λ e. let (none, full) = by_note (eqb g.waiting 0) refl e in (refl, none, full))
      (λ e. absurd (omega (arith, e)))
      (λ e. absurd (omega (arith, e)))
      h,
  λ h. rw (h.0, (none_open g).1 h.1, (count_full g n).1 h.2),
)
  where
    by_note : (t : Bool) → eqb g.waiting 0 ≡ t → first_cause (open_code g ∷ 0 ∷ count_code g n ∷ []) ≡ 13
        → (g.waiting ≡ 0) × (most_count < g.count + n)
    by_note true e h = (eqb-true _ _ e, (count_full g n).0 (sym (lone_cause (count_code g n)) ∙ rw (open_code, e) at h))
    by_note false e h = absurd (omega (arith, rw (open_code, e) at h))

-- ---- The numbers of a pair, accepted

pub uniforms_accepted : (g : Generator) → pairs_code g 1 ≡ 0
    → uniforms_of g
    ≡ record {
      code = 0;
      k = output (advance g.a) * 65536 + output (advance g.b) / 65536;
      v = output (advance g.b) % 65536;
      next = moved 1 g;
    }
unfolding uniforms_of repeat
uniforms_accepted g e = rw (uniforms_of, e)

-- The numbers of a pair have 48 and 16 bits, refused or not.
output_lt : (u : Stream) → InRange u → output u < 2 ^ 32
unfolding output
output_lt u h = xor_lt 32 (bit_xor u.s0 u.s1) u.s2 (xor_lt 32 u.s0 u.s1 h.s0_range h.s1_range) h.s2_range

pub numbers_bounded : (g : Generator) → InRange g.a → InRange g.b → ((uniforms_of g).k < 2 ^ 48) × ((uniforms_of g).v < 65536)
unfolding uniforms_of
numbers_bounded g ra rb = by_test (eqb (pairs_code g 1) 0)
  where
    a : output (advance g.a) < 2 ^ 32
    a = output_lt (advance g.a) (advance_range g.a ra)

    b : output (advance g.b) < 2 ^ 32
    b = output_lt (advance g.b) (advance_range g.b rb)

    by_test : (t : Bool)
        → (cond t (output (advance g.a) * 65536 + output (advance g.b) / 65536) 0 < 2 ^ 48)
        × (cond t (output (advance g.b) % 65536) 0 < 65536)
    by_test true = omega (arith, a, b)
    by_test false = omega arith

-- ---- n pairs on

pub next_sound : (g : Generator) → Sound g → Sound (uniforms_of g).next
unfolding uniforms_of repeat
next_sound g h = by_test (eqb (pairs_code g 1) 0)
  where
    by_test : (t : Bool) → Sound (cond t (moved 1 g) g)
    by_test true = moved_sound 1 g h
    by_test false = h

pub after_add : (m n : ℕ) (g : Generator) → after (m + n) g ≡ after n (after m g)
unfolding after
after_add zero n g = rw (zero-add n)
after_add (suc m) n g = rw (suc-add m n) (after_add m n (uniforms_of g).next)

pub after_sound : (n : ℕ) (g : Generator) → Sound g → Sound (after n g)
unfolding after
after_sound zero g h = h
after_sound (suc n) g h = after_sound n (uniforms_of g).next (next_sound g h)

-- Where no request is open and the count has room, each stream and the count are then n draws on.
pub after_moved : (n : ℕ) (g : Generator) → Sound g → g.waiting ≡ 0 → g.count + n ≤ most_count → after n g ≡ moved n g
unfolding after repeat
after_moved zero g h none room = rw (add-zero g.count)
after_moved (suc n) g h none room =
    let one_more : 1 + n ≡ suc n = omega arith in
    let first : (uniforms_of g).next ≡ moved 1 g
    = ap (λ (u : Uniforms). u.next) (uniforms_accepted g ((pairs_accepted g 1).1 (sound_accepted g h, omega arith, none))) in
    rw first (after_moved n (moved 1 g) (moved_sound 1 g h) none (omega arith) ∙ rw one_more at (moved_add 1 n g))

-- ---- Demand 2, of the calls

-- The draw after n moves is draw n + 1.
pub next_draw : (n : ℕ) (u : Stream) → output (advance (repeat advance n u)) ≡ draw_at u (suc n)
unfolding draw_at repeat
next_draw n u = ap output (repeat_add advance n 1 u ∙ rw (add-one n))

-- n pairs on, the numbers of a pair are those of draw n + 1 of stream a and of stream b.
pub numbers_are : (n : ℕ) (g : Generator) → Sound g → g.waiting ≡ 0 → g.count + n < most_count
    → ((uniforms_of (moved n g)).k ≡ draw_at g.a (suc n) * 65536 + draw_at g.b (suc n) / 65536)
    × ((uniforms_of (moved n g)).v ≡ draw_at g.b (suc n) % 65536)
numbers_are n g h none room =
    let accepted = (pairs_accepted (moved n g) 1).1 (sound_accepted _ (moved_sound n g h), omega arith, none) in
    rw (uniforms_accepted (moved n g) accepted, next_draw n g.a, next_draw n g.b) (refl, refl)

-- ---- The step runs backwards

-- Two streams that a draw has made are the same where the next draw makes them the same.
pub stream_one_to_one : (u v : Stream) → InRange u → InRange v → advance (advance u) ≡ advance (advance v) → advance u ≡ advance v
unfolding advance
stream_one_to_one u v hu hv e =
    λ i.
    record {
      s0 = one_to_one_reached params0 u.s0 v.s0 hu.s0_range hv.s0_range (ap (λ (w : Stream). w.s0) e) i;
      s1 = one_to_one_reached params1 u.s1 v.s1 hu.s1_range hv.s1_range (ap (λ (w : Stream). w.s1) e) i;
      s2 = one_to_one_reached params2 u.s2 v.s2 hu.s2_range hv.s2_range (ap (λ (w : Stream). w.s2) e) i;
    }

-- ---- Readings 11 and 12: registers 2, 8, 16 draw 0x00202080, and then 0x02002C80.
pub readings : (draw_at (registers 2 8 16 2 8 16).a 1 ≡ 0x00202080) × (draw_at (registers 2 8 16 2 8 16).a 2 ≡ 0x02002C80)
unfolding draw_at repeat advance step output
readings = (refl, refl)
