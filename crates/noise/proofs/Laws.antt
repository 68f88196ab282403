-- Laws of pairs and of the samples of n pairs.
use mathlib.Core.Path.{◌≡◌, refl, sym, ap, ◌∙◌}
use mathlib.Core.List.{List, ◌∷◌, ◌++◌}
use mathlib.Core.Logic.{◌↔◌}
use Prim.Native.Nat.{ℕ, zero, suc, ◌+◌, ◌*◌, ◌/◌, ◌%◌, ◌≤◌}
use native.Mathlib.Nat.{zero-add, suc-add}
use native.Mathlib.Omega.{arith}
use lib.IntN.{ℤ}
use lib.ListN.{length}
use Rattle.streams.specs.declared.Generator.{Generator}
use Rattle.streams.specs.declared.Uniforms.{Uniforms}
use Rattle.streams.specs.Streams.{advance, output, noted, cleared, record_code, most_asked, most_count, note_code, own_code, room_code}
use Rattle.streams.specs.Streams.{code_of, pairs_code, uniforms_of, after}
use Rattle.streams.specs.Streams.Call.{a_skip, a_Block, a_take}
use Rattle.streams.specs.Recurrence.{Sound, moved}
use Rattle.streams.proofs.Theorems.{sound_accepted, pairs_accepted, moved_sound, uniforms_accepted, numbers_bounded}
use Rattle.streams.proofs.Causes.{accepted_causes, one_open, just_taken, even_length, count_room}
use Rattle.bit_matrix.specs.Matrices.{repeat}
use Rattle.streams.specs.Lanes.{words}
use Rattle.streams.proofs.LaneLaws.{word_is_pair}
use Rattle.box_muller.specs.Sample.{first_of, second_of}
use Rattle.sample.specs.Samples.{samples_at}
use Rattle.box_muller.proofs.Closeness.{accepts}
use Rattle.noise.specs.Noise.{pair_of, samples, block_code}

-- ---- Which blocks are accepted

-- A block is accepted just where its length is even and its pairs are.
pub block_accepted : (g : Generator) (n : ℕ) → (block_code g n ≡ 0) ↔ ((pairs_code g (n / 2) ≡ 0) × (n % 2 ≡ 0))
unfolding note_code own_code room_code
block_accepted g n = (
  λ h.
      let (fits, note, own, room) = (accepted_causes (a_Block n) g).0 h in
      ((accepted_causes (a_skip (n / 2)) g).1 (fits, note, refl, room), (even_length n).0 own),
  λ h.
      let (fits, note, own, room) = (accepted_causes (a_skip (n / 2)) g).0 h.0 in
      (accepted_causes (a_Block n) g).1 (fits, note, (even_length n).1 h.1, room),
)

-- A take is accepted just where the streams are fit, a request is open, the block has two samples for each of its pairs, and these are at most the
-- most and have room in the count;
pub take_accepted : (g : Generator) (n : ℕ)
    → (code_of (a_take n) g ≡ 0)
    ↔ ((record_code g ≡ 0) × (g.waiting ≡ 0 → ⊥) × (g.asked ≤ most_asked) × (n ≡ 2 * g.asked) × (g.count + g.asked ≤ most_count))
unfolding note_code own_code room_code
take_accepted g n = (
  λ h.
      let (fits, note, own, room) = (accepted_causes (a_take n) g).0 h in
      let (few, just) = (just_taken g n).0 own in
      (fits, (one_open g).0 note, few, just, (count_room g g.asked).0 room),
  λ h. (accepted_causes (a_take n) g).1 (h.0, (one_open g).1 h.1, (just_taken g n).1 (h.2, h.3), (count_room g g.asked).1 h.4),
)

-- its pairs are then accepted on the record with its note cleared.
pub taken_pairs : (g : Generator) (n : ℕ) → code_of (a_take n) g ≡ 0 → pairs_code (cleared g) g.asked ≡ 0
unfolding record_code
taken_pairs g n e =
    let (fits, _, _, _, room) = (take_accepted g n).0 e in
    (pairs_accepted (cleared g) g.asked).1 (fits, room, refl)

-- ---- One pair

-- A pair's refusal code is that of its two draws, which is that of one pair.
pub pair_code : (f : ℕ) (g : Generator) → (pair_of f g).code ≡ pairs_code g 1
unfolding pair_of uniforms_of
pair_code f g = refl

-- ---- The samples of n pairs

pub samples_add : (f m n : ℕ) (g : Generator) → samples f (m + n) g ≡ samples f m g ++ samples f n (after m g)
unfolding after samples pair_of
samples_add f zero n g = rw (zero-add n)
samples_add f (suc m) n g = rw (suc-add m n, samples_add f m n (pair_of f g).next)

pub length_samples : (f n : ℕ) (g : Generator) → length (samples f n g) ≡ 2 * n
unfolding samples
length_samples f zero g = refl
length_samples f (suc n) g = let ih = length_samples f n (pair_of f g).next in omega arith

-- ---- The words behind the samples

-- The call from k and v accepts the numbers of a pair, so the pair's samples are those of the whole-number steps.
pub pair_is : (f : ℕ) (g : Generator) → Sound g → pairs_code g 1 ≡ 0
    → pair_of f g
    ≡ record {
      code = 0;
      first = first_of f (uniforms_of g).k (uniforms_of g).v;
      second = second_of f (uniforms_of g).k (uniforms_of g).v;
      next = (uniforms_of g).next;
    }
unfolding pair_of
pair_is f g h e =
    let (hk, hv) = numbers_bounded g h.range_a h.range_b in
    let accepted : (uniforms_of g).code ≡ 0 = ap (λ (u : Uniforms). u.code) (uniforms_accepted g e) in
    rw (pair_of, accepted, accepts f (uniforms_of g).k (uniforms_of g).v hk hv)

-- The samples of n pairs are those of the words of both streams side by side, where no request is open and the count has room.
pub samples_words : (f n : ℕ) (g : Generator) → Sound g → g.waiting ≡ 0 → g.count + n ≤ most_count
    → samples f n g ≡ samples_at f (words n g.a g.b)
unfolding samples words samples_at repeat
samples_words f zero g h none room = refl
samples_words f (suc n) g h none room =
    let accepted : pairs_code g 1 ≡ 0 = (pairs_accepted g 1).1 (sound_accepted g h, omega arith, none) in
    let a = output (advance g.a) in
    let b = output (advance g.b) in
    let high : ((a * 65536 + b / 65536) * 65536 + b % 65536) / 65536 ≡ a * 65536 + b / 65536 = omega arith in
    let low : ((a * 65536 + b / 65536) * 65536 + b % 65536) % 65536 ≡ b % 65536 = omega arith in
    rw (pair_is f g h accepted, uniforms_accepted g accepted, word_is_pair (advance g.a) (advance g.b), high, low)
    (ap (λ (l : List ℤ). first_of f (a * 65536 + b / 65536) (b % 65536) ∷ second_of f (a * 65536 + b / 65536) (b % 65536) ∷ l)
    (samples_words f n (moved 1 g) (moved_sound 1 g h) none (omega arith)))

-- So they are the same whatever a record notes, where no request is open.
pub samples_noted : (f n asked : ℕ) (g : Generator) → Sound g → g.waiting ≡ 0 → g.count + n ≤ most_count
    → samples f n (noted g 0 asked) ≡ samples f n g
samples_noted f n asked g h none room =
    let same : Sound (noted g 0 asked) = record { range_a = h.range_a; range_b = h.range_b; minima_a = h.minima_a; minima_b = h.minima_b } in
    samples_words f n (noted g 0 asked) same refl room ∙ sym (samples_words f n g h none room)
