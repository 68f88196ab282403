-- What is proved of pairs and blocks. `Sound g` says that g is accepted and its registers have 32 bits. Runs of calls are in `Runs`.
use mathlib.Core.Path.{◌≡◌, refl, sym, ap, ◌∙◌}
use mathlib.Core.Bool.{Bool, true, false, cond}
use mathlib.Core.List.{List, [], ◌∷◌, ◌++◌, map}
use Prim.Native.Nat.{ℕ, zero, suc, ◌+◌, ◌*◌, ◌/◌, ◌%◌, ◌≤◌, ◌<◌, zero-le}
use native.Mathlib.Omega.{arith}
use lib.IntN.{ℤ, pos, nat_abs}
use lib.Dec.{eqb}
use lib.ListN.{length, get_or, drop, length-append}
use lib.Seq.{drop_at}
use Rattle.exact.specs.Fraction.{Fraction}
use Rattle.exact.specs.Pair.{Close}
use Rattle.streams.specs.declared.Generator.{Generator}
use Rattle.streams.specs.declared.RecordAnswer.{RecordAnswer}
use Rattle.streams.specs.Streams.{most_count, uniforms_of, after, skip_of}
use Rattle.streams.specs.Recurrence.{Sound, moved}
use Rattle.streams.proofs.Theorems.{sound_accepted, pairs_accepted, moved_sound, moved_add, after_sound, after_moved, numbers_bounded}
use Rattle.streams.proofs.Skip.{skip_accepted, skip_moves}
use Rattle.streams.proofs.Theorems.{readings as draw-readings}
use Rattle.radius.specs.Steps.{inverse}
use Rattle.box_muller.specs.Steps.{fraction_bits, fraction_bits18}
use Rattle.box_muller.specs.Sample.{samples_of}
use Rattle.box_muller.specs.Theorems.{largest}
use Rattle.box_muller.specs.Readings.{Reading, readings}
use Rattle.box_muller.proofs.Readings.{the_readings}
use Rattle.box_muller.specs.declared.Samples.{Samples}
use Rattle.box_muller.proofs.Closeness.{Room, samples_close}
use Rattle.box_muller.proofs.Theorems.{theorems}
use Rattle.noise.specs.Noise.{pair_of, samples, block_code, block_of, block_holds}
use Rattle.noise.specs.Readings.{Check, of_samples, of_draw, AllHold, twelve}
use Rattle.noise.proofs.Laws.{block_accepted, pair_code, pair_is, samples_add, length_samples}

-- ---- Blocks

-- An accepted block holds the samples of half as many pairs, whatever it held before,
pub block_holds_lem : (f : ℕ) (g : Generator) (old : List ℤ) → block_code g (length old) ≡ 0 → block_holds f g old ≡ samples f (length old / 2) g
unfolding block_holds
block_holds_lem f g old e = rw (block_holds, e)

-- and leaves the streams and the count as many pairs on.
pub block_moves : (g : Generator) (n : ℕ) → Sound g → block_code g n ≡ 0 → block_of g n ≡ record { code = 0; next = moved (n / 2) g }
unfolding block_of
block_moves g n h e =
    let (_, room, none) = (pairs_accepted g (n / 2)).0 ((block_accepted g n).0 e).0 in
    rw (block_of, e, after_moved (n / 2) g h none room)

-- Two blocks are accepted, one after the other, where each is even and one of their sum is accepted,
pub blocks_accepted : (g : Generator) (n m : ℕ) → Sound g → n % 2 ≡ 0 → block_code g (n + m) ≡ 0
    → (block_code g n ≡ 0) × (block_code (block_of g n).next m ≡ 0)
blocks_accepted g n m h en e =
    let (pairs, whole) = (block_accepted g (n + m)).0 e in
    let (fits, room, none) = (pairs_accepted g ((n + m) / 2)).0 pairs in
    let first : block_code g n ≡ 0 = (block_accepted g n).1 ((pairs_accepted g (n / 2)).1 (fits, omega arith, none), en) in
    let fits_after = sound_accepted _ (moved_sound (n / 2) g h) in (
      first,
      rw (block_moves g n h first)
          ((block_accepted (moved (n / 2) g) m).1 ((pairs_accepted _ (m / 2)).1 (fits_after, omega arith, none), omega arith)),
    )

-- and a block of n + m is then a block of n and one of m on the record returned: the samples,
pub blocks_hold : (f : ℕ) (g : Generator) (x y : List ℤ) → Sound g → length x % 2 ≡ 0 → block_code g (length (x ++ y)) ≡ 0
    → block_holds f g (x ++ y) ≡ block_holds f g x ++ block_holds f (block_of g (length x)).next y
blocks_hold f g x y h ex e =
    let n = length x / 2 in
    let m = length y / 2 in
    let (first, second) = blocks_accepted g (length x) (length y) h ex (rw (length-append x y) at e) in
    let size : length (x ++ y) / 2 ≡ n + m = rw (length-append x y) (omega arith) in
    let (_, room, none) = (pairs_accepted g n).0 ((block_accepted g (length x)).0 first).0 in
    rw (block_holds_lem f g (x ++ y) e, block_holds_lem f g x first, block_holds_lem f (block_of g (length x)).next y second, size, samples_add f n m g)
    (ap (λ (next : Generator). samples f n g ++ samples f m next)
    (after_moved n g h none room ∙ sym (ap (λ (r : RecordAnswer). r.next) (block_moves g (length x) h first))))

-- and the record.
pub blocks_next : (g : Generator) (n m : ℕ) → Sound g → n % 2 ≡ 0 → block_code g (n + m) ≡ 0
    → block_of g (n + m) ≡ block_of (block_of g n).next m
blocks_next g n m h en e =
    let (first, second) = blocks_accepted g n m h en e in
    let half : n / 2 + m / 2 ≡ (n + m) / 2 = omega arith in
    rw (block_moves g (n + m) h e, block_moves g n h first)
    (sym (block_moves (moved (n / 2) g) m (moved_sound (n / 2) g h) (rw (block_moves g n h first) at second)
    ∙ rw (← half) (ap (λ (next : Generator). record { code = 0; next = next }) (moved_add (n / 2) (m / 2) g))))

-- A block of 2 n samples after a skip of m pairs is the last 2 n of a block of 2 (m + n), where that is accepted.
pub skip_block : (f m n : ℕ) (g : Generator) (long short : List ℤ) → Sound g → length long ≡ 2 * (m + n) → length short ≡ 2 * n
    → block_code g (length long) ≡ 0 → block_holds f (skip_of g m).next short ≡ drop (2 * m) (block_holds f g long)
skip_block f m n g long short h el es e =
    let whole : length long / 2 ≡ m + n = omega arith in
    let part : length short / 2 ≡ n = omega arith in
    let (fits, room, none) = (pairs_accepted g (length long / 2)).0 ((block_accepted g (length long)).0 e).0 in
    let first : (skip_of g m).code ≡ 0 = (skip_accepted m g).1 (fits, omega arith, none) in
    let second : block_code (moved m g) (length short) ≡ 0
    = (block_accepted (moved m g) (length short)).1
    ((pairs_accepted _ (length short / 2)).1 (sound_accepted _ (moved_sound m g h), omega arith, none), omega arith) in
    rw (
      skip_moves m g h.range_a h.range_b first,
      block_holds_lem f (moved m g) short second,
      block_holds_lem f g long e,
      whole,
      part,
      samples_add f m n g,
      drop_at (samples f m g) (samples f n (after m g)) (2 * m) (length_samples f m g),
      after_moved m g h none (omega arith),
    )

-- ---- Every sample is that of its pair, of bounded size, and close

-- No sample of a pair, refused or not, has a size above the largest: 16879 at 11 fraction bits, 67517 at 13.
pub pair_sizes : (f : ℕ) (g : Generator) → (nat_abs (pair_of f g).first ≤ largest f) × (nat_abs (pair_of f g).second ≤ largest f)
unfolding pair_of
pair_sizes f g = by_test (eqb (uniforms_of g).code 0)
  where
    small : ℤ → Type 0
    small z = nat_abs z ≤ largest f

    by_test : (t : Bool)
        → small (cond t (samples_of f (uniforms_of g).k (uniforms_of g).v).first (pos 0))
        × small (cond t (samples_of f (uniforms_of g).k (uniforms_of g).v).second (pos 0))
    by_test true = theorems.sizes f (uniforms_of g).k (uniforms_of g).v
    by_test false = (zero-le, zero-le)

-- Elements 2 i and 2 i + 1 are the samples of pair i.
pub samples_first : (f n i : ℕ) (g : Generator) (d : ℤ) → i < n → get_or (samples f n g) (2 * i) d ≡ (pair_of f (after i g)).first
unfolding samples after pair_of
samples_first f zero i g d h = absurd (omega arith)
samples_first f (suc n) zero g d h = refl
samples_first f (suc n) (suc i) g d h =
    let e : 2 * suc i ≡ suc (suc (2 * i)) = omega arith in
    rw e (samples_first f n i (pair_of f g).next d (omega arith))

pub samples_second : (f n i : ℕ) (g : Generator) (d : ℤ) → i < n → get_or (samples f n g) (2 * i + 1) d ≡ (pair_of f (after i g)).second
unfolding samples after pair_of
samples_second f zero i g d h = absurd (omega arith)
samples_second f (suc n) zero g d h = refl
samples_second f (suc n) (suc i) g d h =
    let e : 2 * suc i + 1 ≡ suc (suc (2 * i + 1)) = omega arith in
    rw e (samples_second f n i (pair_of f g).next d (omega arith))

-- Closeness, of an accepted pair at f fraction bits, for a limit that has room there (nine sixteenths at 11: demand 3; three quarters at 13): each
-- sample is less than that from its member of the exact pair of its two numbers, (2k + 1) over 2^49 and v over 65536.
pub pair_close : (limit : Fraction) (f : ℕ) (g : Generator) → Room limit f → Sound g → (pair_of f g).code ≡ 0
    → Close limit f (inverse (uniforms_of g).k) (uniforms_of g).v (pair_of f g).first (pair_of f g).second
pair_close limit f g enough h e =
    let (hk, hv) = numbers_bounded g h.range_a h.range_b in
    rw (pair_is f g h (rw (pair_code f g) at e)) (samples_close limit f (uniforms_of g).k (uniforms_of g).v enough hk hv)

-- n pairs on, the next pair is accepted where no request is open and the count has room for it: so is each of the 500 pairs of a job, whose
-- record is as seeding makes it.
pub pair_accepted : (f n : ℕ) (g : Generator) → Sound g → g.waiting ≡ 0 → g.count + n < most_count → (pair_of f (after n g)).code ≡ 0
pair_accepted f n g h none room =
    rw (pair_code f (after n g), after_moved n g h none (omega arith))
    ((pairs_accepted (moved n g) 1).1 (sound_accepted _ (moved_sound n g h), omega arith, none))

-- The same of an accepted block: so is every sample of it from that of the pair in its place.
pub block_close : (limit : Fraction) (f : ℕ) (g : Generator) (old : List ℤ) (i : ℕ) (d : ℤ) → Room limit f → Sound g → block_code g (length old) ≡ 0
    → i < length old / 2
    → Close limit f (inverse (uniforms_of (after i g)).k) (uniforms_of (after i g)).v
    (get_or (block_holds f g old) (2 * i) d) (get_or (block_holds f g old) (2 * i + 1) d)
block_close limit f g old i d enough h e l =
    let (_, room, none) = (pairs_accepted g (length old / 2)).0 ((block_accepted g (length old)).0 e).0 in
    rw (block_holds_lem f g old e, samples_first f (length old / 2) i g d l, samples_second f (length old / 2) i g d l)
    (pair_close limit f (after i g) enough (after_sound i g h) (pair_accepted f i g h none (omega arith)))

-- A block of samples of 18 bits and one of 16 bits, from equal records and of equal length, have one refusal code and end in equal records: both calls
-- return `block_of`. So do pairs.
pub blocks_alike : (g h : Generator) (x y : List ℤ) → g ≡ h → length x ≡ length y → block_of g (length x) ≡ block_of h (length y)
blocks_alike g h x y same size = rw (same, size)

pub pairs_alike : (g : Generator)
    → ((pair_of fraction_bits18 g).code ≡ (pair_of fraction_bits g).code) × ((pair_of fraction_bits18 g).next ≡ (pair_of fraction_bits g).next)
unfolding pair_of
pairs_alike g = (refl, refl)

-- ---- The twelve readings of document 01

-- readings whose samples are those of the table hold, each of them
each_holds : (l : List Reading) → map (λ (r : Reading). samples_of fraction_bits r.k r.v) l
    ≡ map (λ (r : Reading). record { code = 0; first = r.first; second = r.second }) l
    → (rest : List Check) → AllHold rest → AllHold (map of_samples l ++ rest)
each_holds [] e rest h = h
each_holds (r ∷ l) e rest h =
    (ap (λ (s : List Samples). get_or s 0 (samples_of fraction_bits 0 0)) e, each_holds l (ap (λ (s : List Samples). drop 1 s) e) rest h)

pub twelve_readings : AllHold twelve
unfolding twelve
twelve_readings =
    each_holds readings the_readings.hold (of_draw 1 0x00202080 ∷ of_draw 2 0x02002C80 ∷ []) (draw-readings.0, (draw-readings.1, tt))
