-- A block goes by chunks. What holds between two of them, over f and so for either width.
use mathlib.Core.Path.{◌≡◌, refl, sym, ap, subst, ◌∙◌}
use mathlib.Core.List.{List, ◌++◌}
use Prim.Native.Nat.{ℕ, ◌+◌, ◌-◌, ◌*◌, ◌/◌, ◌%◌, ◌≤◌, ◌<◌, min}
use native.Mathlib.Omega.{arith}
use lib.IntN.{ℤ}
use lib.ListN.{length, take, drop, length-take, length-drop}
use lib.Seq.{take-append-add, take_at, take_all}
use borrow.Rule.Slice.PartMut.{put_mid, post_of, same_len_mid}
use Rattle.bit_matrix.specs.Matrices.{repeat}
use Rattle.bit_matrix.proofs.Theorems.{repeat_add}
use Rattle.streams.specs.declared.Stream.{Stream}
use Rattle.streams.specs.Streams.{advance}
use Rattle.streams.specs.declared.Lanes.{Lanes}
use Rattle.streams.specs.Lanes.{upper, lower, words, LanesAfter}
use Rattle.streams.proofs.LaneLaws.{words_add, length_words}
use Rattle.sample.specs.Samples.{samples_at}
use Rattle.sample.specs.Filled.{LanesDrawn, Filled}
use Rattle.sample.specs.Private.{Room}
use Rattle.sample.proofs.SamplesLaws.{samples_append, samples_length}
use Rattle.sample.proofs.PassLaws.{Kept}

-- two samples for each word
drawn_length : (f n : ℕ) (a b : Stream) → length (samples_at f (words n a b)) ≡ 2 * n
drawn_length f n a b = samples_length f (words n a b) ∙ ap (λ (m : ℕ). 2 * m) (length_words n a b)

-- the first `place` samples are written
pub record Reached (f : ℕ) (out₀ : List ℤ) (u : Lanes) (out : List ℤ) (state : Lanes) (place : ℕ) : Type 0 where
  pub within : place ≤ length out₀
  pub even : place % 2 ≡ 0
  pub length_kept : length out ≡ length out₀
  pub now_at : LanesAfter (place / 2) u state
  pub done : take place out ≡ samples_at f (words (place / 2) (upper u) (lower u))

-- and the slices to work in are as long as they were, z as long as a chunk
pub record Going (f : ℕ) (z₀ p₀ r₀ x₀ c₀ f₀ : List ℕ) (out₀ : List ℤ) (u : Lanes) (z p r x c fi : List ℕ) (out : List ℤ) (state : Lanes) (place : ℕ) : Type 0 where
  pub reached : Reached f out₀ u out state place
  pub z_kept : length z ≡ length z₀
  pub kept : Kept p₀ r₀ x₀ c₀ f₀ p r x c fi

-- before the first chunk
none_yet : {f : ℕ} {out : List ℤ} {u : Lanes} {place : ℕ} → place ≡ 0 → Reached f out u out u place
unfolding repeat words samples_at
none_yet {f} {out} {u} {place} e =
    subst (Reached f out u out u) (sym e)
    (record { within = omega arith; even = refl; length_kept = refl; now_at = record { a_at = refl; b_at = refl }; done = refl })

pub start : {f : ℕ} {z p r x c fi : List ℕ} {out : List ℤ} {u : Lanes} {place : ℕ} → place ≡ 0 → Going f z p r x c fi out u z p r x c fi out u place
start e = record {
  reached = none_yet e;
  z_kept = refl;
  kept = record { places_kept = refl; r_kept = refl; x_kept = refl; coarse_kept = refl; fine_kept = refl };
}

pub room_kept : {n m : ℕ} {p₀ r₀ x₀ c₀ f₀ p r x c fi : List ℕ} → Room n p₀ r₀ x₀ c₀ f₀ → m ≡ n → Kept p₀ r₀ x₀ c₀ f₀ p r x c fi → Room m p r x c fi
room_kept room same kept = record {
  places_room = omega (arith, room.places_room, kept.places_kept);
  r_room = omega (arith, room.r_room, kept.r_kept);
  x_room = omega (arith, room.x_room, kept.x_kept);
  coarse_room = omega (arith, room.coarse_room, kept.coarse_kept);
  fine_room = omega (arith, room.fine_room, kept.fine_kept);
}

-- a chunk: from a place to an end that is not beyond the memory, nor beyond the room of z
pub record Chunk (room most place end : ℕ) : Type 0 where
  pub inside : end ≤ room
  pub some : place < end
  pub few : end ≤ place + 2 * most
  pub whole : (end - place) % 2 ≡ 0

pub chunk_is : {room most place end : ℕ} → room % 2 ≡ 0 → place % 2 ≡ 0 → 0 < most → place < room → end ≡ min room (place + 2 * most) → Chunk room most place end
chunk_is even₀ even some more e = record { inside = omega arith; some = omega arith; few = omega arith; whole = omega arith }

-- the next chunk, between two turns; the memory has as many elements as values
pub next_chunk : {f : ℕ} {z₀ p₀ r₀ x₀ c₀ f₀ : List ℕ} {out₀ : List ℤ} {u : Lanes} {z p r x c fi : List ℕ} {out : List ℤ} {state : Lanes} {place end n m : ℕ}
    → Going f z₀ p₀ r₀ x₀ c₀ f₀ out₀ u z p r x c fi out state place → length out₀ ≡ n → length out ≡ m → 0 < length z₀ → n % 2 ≡ 0
    → place < m → end ≡ min m (place + 2 * length z) → Chunk m (length z) place end
next_chunk going before now some even more e = chunk_is (omega (arith, going.reached.length_kept, before, now, even)) going.reached.even (omega (arith, going.z_kept, some)) more e

module _ {room most place end : ℕ} (chunk : Chunk room most place end) (z : List ℕ) (size : length z ≡ most) where
  -- its words are the first of z
  words_room : (end - place) / 2 ≤ length z
  words_room = omega (arith, chunk.few)

  words_size : length (take ((end - place) / 2 - 0) z) ≡ (end - place) / 2
  words_size = simp length-take (omega (arith, words_room))

  -- what is asked of a chunk
  module _ {A : Type 0} (out : List A) (out-size : length out ≡ room) where
    part_size : length (take (end - place) (drop place out)) ≡ end - place
    part_size = simp (length-take, length-drop) (omega (arith, chunk.inside, chunk.some))

    pub asked : {p r x c fi : List ℕ} → Room most p r x c fi → Room (length (take ((end - place) / 2 - 0) z)) p r x c fi
        × (length (take (end - place) (drop place out)) ≡ 2 * length (take ((end - place) / 2 - 0) z))
    asked r = rw (words_size, part_size) (
      record {
        places_room = omega (arith, r.places_room, words_room);
        r_room = omega (arith, r.r_room, words_room);
        x_room = omega (arith, r.x_room, words_room);
        coarse_room = omega (arith, r.coarse_room, words_room);
        fine_room = omega (arith, r.fine_room, words_room);
      },
      omega (arith, chunk.whole),
    )

  -- one chunk more
  module _ {f : ℕ} {out₀ out new : List ℤ} (out-size : length out ≡ room) {u state next : Lanes} (r : Reached f out₀ u out state place) (same : room ≡ length out₀)
      (drawn : LanesDrawn f (length (take ((end - place) / 2 - 0) z)) state next new) where
    halves : place / 2 + (end - place) / 2 ≡ end / 2
    halves = omega (arith, r.even, chunk.some)

    new_is : new ≡ samples_at f (words ((end - place) / 2) (repeat advance (place / 2) (upper u)) (repeat advance (place / 2) (lower u)))
    new_is = drawn.written ∙ rw (words_size, r.now_at.a_at, r.now_at.b_at)

    new_size : length new ≡ end - place
    new_size = ap length new_is ∙ drawn_length f ((end - place) / 2) _ _ ∙ omega (arith, chunk.whole)

    before_size : length (take place out) ≡ place
    before_size = simp length-take (omega (arith, r.within))

    done_is : take end (put_mid place (end - place) out new) ≡ samples_at f (words (end / 2) (upper u) (lower u))
    done_is =
        let whole : length (take place out) + (end - place) ≡ end = omega (arith, before_size, chunk.some) in
        rw whole at (take-append-add (take place out) (new ++ post_of place (end - place) out) (end - place))
        ∙ rw (take_at new (post_of place (end - place) out) (end - place) new_size, r.done, new_is, ← halves, words_add (place / 2) ((end - place) / 2) (upper u) (lower u))
        (sym (samples_append f (words (place / 2) (upper u) (lower u)) _))

    pub again : Reached f out₀ u (put_mid place (end - place) out new) next end
    again =
        record {
          within = omega (arith, chunk.inside);
          even = omega (arith, r.even, chunk.whole, chunk.some);
          length_kept = same_len_mid place (end - place) out new (new_size ∙ sym (part_size out out-size)) ∙ out-size ∙ same;
          now_at = record {
            a_at = drawn.now_at.a_at ∙ rw (words_size, r.now_at.a_at, ← halves) (repeat_add advance (place / 2) ((end - place) / 2) (upper u));
            b_at = drawn.now_at.b_at ∙ rw (words_size, r.now_at.b_at, ← halves) (repeat_add advance (place / 2) ((end - place) / 2) (lower u));
          };
          done = done_is;
        }

-- the part of z that was lent is back
pub part_kept : (k : ℕ) {m : ℕ} (z new : List ℕ) → length new ≡ length (take k z) → length z ≡ m → length (put_mid 0 k z new) ≡ m
part_kept k z new e size = same_len_mid 0 k z new e ∙ size

-- all are written
pub ended : {f : ℕ} {out₀ out : List ℤ} {u state : Lanes} {place n : ℕ} → Reached f out₀ u out state place → length out₀ ≡ n → n ≤ place
    → LanesDrawn f (n / 2) u state out
ended {f} {out₀} {out} {u} {state} {place} {n} r size all =
    let whole : place ≡ n = omega (arith, r.within, size) in
    record {
      now_at = subst (λ (n : ℕ). LanesAfter (n / 2) u state) whole r.now_at;
      written = sym (take_all place out (omega (arith, r.length_kept, size))) ∙ r.done ∙ rw whole;
    }

-- ---- Any length

pub filled_even : {f n : ℕ} {u next : Lanes} {old new : List ℤ} → length old ≡ n → n % 2 ≡ 0 → LanesDrawn f (n / 2) u next new → Filled f u next old new
filled_even size e drawn = record { even = λ _. rw size drawn; odd = λ other. absurd (other (rw size e)) }

pub filled_odd : {f n : ℕ} {u : Lanes} {old : List ℤ} → length old ≡ n → (n % 2 ≡ 0 → ⊥) → Filled f u u old old
filled_odd size other = record { even = λ e. absurd (other (rw size at e)); odd = λ _. (refl, refl) }
