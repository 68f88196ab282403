-- Bytes written into a buffer: one write after another, what it leaves alone, and where it ends.
use Prim.Native.Nat.{ℕ, suc, ◌+◌, ◌-◌, ◌/◌, ◌%◌, ◌≤◌, ◌<◌, min}
use native.Mathlib.Omega.{arith}
use native.Mathlib.Nat.{add-zero}
use native.Mathlib.Decide.{dec_lt}
use mathlib.Core.Path.{◌≡◌, refl, sym, ap, ◌∙◌}
use mathlib.Core.List.{List, [], ◌∷◌, ◌++◌, append_assoc, append-nil}
use lib.ListN.{length, take, drop, set, replicate, length-replicate, length-append, take-append-drop, drop_of_length-le}
use lib.Seq.{sets, length-sets, drop-drop, take-length, sets-eq, set_out, take_all, take_at, length-take-le}
use borrow.Rule.Slice.PartMut.{put_mid}
use Rattle.std.proofs.lemmas.List.{drop-set}
use Rattle.text.specs.Fields.{decimal}
use Rattle.text.specs.Buffer.{written, position_after, Puts, Writes}
use Rattle.text.specs.declared.buffer.Writer.{Writer}
use Rattle.text.proofs.Decimal.{decimal_one, decimal_more}

sets_append : (d : List ℕ) (at : ℕ) (s t : List ℕ) → sets d at (s ++ t) ≡ sets (sets d at s) (at + length s) t
sets_append d at [] t = ap (λ (n : ℕ). sets d n t) (sym (add-zero at))
sets_append d at (x ∷ s) t =
    sets_append (set d at x) (suc at) s t
    ∙ ap (λ (n : ℕ). sets (sets (set d at x) (suc at) s) n t) {x = suc at + length s} {y = at + suc (length s)} (omega arith)

sets_out : (d : List ℕ) (at : ℕ) (s : List ℕ) → length d ≤ at → sets d at s ≡ d
sets_out d at [] h = refl
sets_out d at (x ∷ s) h = rw (set_out d at x h) (sets_out d (suc at) s (omega arith))

-- bytes beyond the end
pub written_out : (d : List ℕ) (at : ℕ) (s : List ℕ) → length d ≤ at → written d at s ≡ d
unfolding written
written_out d at s h = sets_out d at s h

pub written_length : (d : List ℕ) (at : ℕ) (s : List ℕ) → length (written d at s) ≡ length d
unfolding written
written_length d at s = length-sets d at s

-- a write after another, where the first would end in a room without end
pub written_on : (d s t : List ℕ) → written (written d 0 s) (length s) t ≡ written d 0 (s ++ t)
unfolding written
written_on d s t = ap (λ (n : ℕ). sets (sets d 0 s) n t) {x = length s} {y = 0 + length s} (omega arith) ∙ sym (sets_append d 0 s t)

pub written_none : (d : List ℕ) (at : ℕ) → (at ≡ position_after d at []) × (d ≡ written d at [])
unfolding written position_after
written_none d at = (omega arith, refl)

-- where the bytes fit
module _ (d : List ℕ) (at : ℕ) (s : List ℕ) (room : at + length s ≤ length d) where
  pub position_fits : position_after d at s ≡ at + length s
  unfolding position_after
  position_fits = omega arith

  pub written_fits : written d at s ≡ take at d ++ s ++ drop (at + length s) d
  unfolding written
  written_fits = sets-eq s d at room

  pub written_take : take (at + length s) (written d at s) ≡ take at d ++ s
  written_take =
      let e = length-take-le at d (omega arith) in
      rw written_fits (take_at (take at d ++ s) (drop (at + length s) d) (at + length s) (length-append (take at d) s ∙ rw e))

-- a second write where the first ended is one write
module _ (d : List ℕ) (at : ℕ) (s t : List ℕ) where
  position_full : length d < at + length s → length d ≤ position_after d at s
  unfolding position_after
  position_full h = omega arith

  pub position_append : position_after (written d at s) (position_after d at s) t ≡ position_after d at (s ++ t)
  unfolding position_after
  position_append = rw (written_length d at s, length-append s t) (clipped (length s) (length t) (length d))
    where
      clipped : (m n room : ℕ) → at + min m (room - at) + min n (room - (at + min m (room - at))) ≡ at + min (m + n) (room - at)
      clipped m n room = split (dec_lt (at + m) room) (dec_lt at room)
        where
          split : Dec (at + m < room) → Dec (at < room)
              → at + min m (room - at) + min n (room - (at + min m (room - at))) ≡ at + min (m + n) (room - at)
          split (yes h) k =
              let e : min m (room - at) ≡ m = omega arith in rw e (omega arith)
          split (no h) (yes k) =
              let e : min m (room - at) ≡ room - at = omega (arith, h) in rw e (omega (arith, h))
          split (no h) (no k) =
              let e : room - at ≡ 0 = omega (arith, k) in rw e (omega (arith, k))

  pub written_append : written (written d at s) (position_after d at s) t ≡ written d at (s ++ t)
  unfolding written
  written_append = split (dec_lt (length d) (at + length s))
    where
      split : Dec (length d < at + length s) → sets (sets d at s) (position_after d at s) t ≡ sets d at (s ++ t)
      split (no h) = rw (position_fits d at s (omega (arith, h))) (sym (sets_append d at s t))
      split (yes h) =
          sets_out (sets d at s) (position_after d at s) t (rw (length-sets d at s) (position_full h))
          ∙ sym (sets_append d at s t ∙ sets_out (sets d at s) (at + length s) t (rw (length-sets d at s) (omega arith)))

-- writes that follow one another are one write
pub then_puts : (d : List ℕ) (at : ℕ) (s t : List ℕ) {e f : List ℕ} {a b : ℕ} → Puts d at s a e → Puts e a t b f → Puts d at
    (s ++ t) b f
then_puts d at s t p q =
    (q.0 ∙ rw (p.0, p.1) (position_append d at s t), q.1 ∙ rw (p.0, p.1) (written_append d at s t))

pub then_writes : {a b c : Writer} {s t : List ℕ} → Writes a s b → Writes b t c → Writes a (s ++ t) c
then_writes {a} {b} {c} {s} {t} p q = record { same_buffer = q.same_buffer ∙ p.same_buffer; puts = then_puts a.out.now a.at s t p.puts q.puts }

-- what a writer wrote that began at the beginning of a buffer
pub writer_puts : {out : List ℕ} {a b : Writer} {s t : List ℕ} → (a.out.now ≡ out) × (a.at ≡ 0) → Writes a s b → s ≡ t → Puts out 0 t b.at b.out.now
writer_puts start w e = rw (e, start.0, start.1) at w.puts

-- the position after what was put is within the buffer
pub puts_within : (d : List ℕ) (at : ℕ) (s : List ℕ) {next : ℕ} {e : List ℕ} → at ≤ length d → Puts d at s next e → next ≤ length e
unfolding position_after
puts_within d at s h p = rw (p.0, p.1, written_length d at s) (omega arith)

-- bytes put into a room of zeros: the position is within it, and where they fit, they are what stands before it
module _ (room : ℕ) (s : List ℕ) {next : ℕ} {e : List ℕ} (p : Puts (replicate room 0) 0 s next e) where
  pub room_bound : next ≤ room
  unfolding position_after
  room_bound = omega (arith, p.0, length-replicate {A = ℕ} room 0)

  pub room_holds : length s ≤ room → (next ≡ length s) × (take next e ≡ s)
  room_holds h =
      let zeros : List ℕ = replicate room 0 in
      let size : length zeros ≡ room = length-replicate room 0 in
      let fit : 0 + length s ≤ length zeros = omega (arith, h, size) in
      let n : next ≡ 0 + length s = p.0 ∙ position_fits zeros 0 s fit in (
        omega (arith, n),
        rw p.1 (ap (λ (k : ℕ). take k (written zeros 0 s)) {x = next} {y = 0 + length s} n ∙ written_take zeros 0 s fit),
      )

-- as many bytes as fit, copied into a part of the buffer
module _ (d : List ℕ) (at : ℕ) (s : List ℕ) (start n : ℕ) (u : start ≡ min at (length d)) (e : n ≡ min (length s) (length d - start)) where
  few_size : length (take n s) ≡ n
  few_size = length-take-le n s (omega (arith, e))

  pub put_next : at + n ≡ position_after d at s
  unfolding position_after
  put_next = omega (arith, u, e)

  -- no more would fit
  all_fit : sets d at (take n s) ≡ sets d at s
  all_fit = split (dec_lt n (length s))
    where
      split : Dec (n < length s) → sets d at (take n s) ≡ sets d at s
      split (no h) = ap (λ (l : List ℕ). sets d at l) (take_all n s (omega (arith, h)))
      split (yes h) =
          let out : length (sets d at (take n s)) ≤ at + length (take n s) = rw (length-sets d at (take n s), few_size) (omega (arith, u, e)) in
          sym (ap (λ (m : List ℕ). sets d at m) (sym (take-append-drop n s)) ∙ sets_append d at (take n s) (drop n s)
          ∙ sets_out (sets d at (take n s)) (at + length (take n s)) (drop n s) out)

  pub put_part : (k m : ℕ) → k ≡ n → m ≡ n → put_mid start k d (take m s) ≡ written d at s
  unfolding written
  put_part k m ek em = rw (ek, em) (split (dec_lt (length d) at))
    where
      split : Dec (length d < at) → put_mid start n d (take n s) ≡ sets d at s
      split (no h) =
          let i : start ≡ at = omega (arith, u, h) in
          let room : at + length (take n s) ≤ length d = omega (arith, u, e, h, few_size) in
          rw i
          (ap (λ (l : List ℕ). take at d ++ (take n s ++ l)) (drop-drop n at d)
          ∙ sym (append_assoc (take at d) (take n s) (drop (at + n) d))
          ∙ ap (λ (c : ℕ). take at d ++ take n s ++ drop (at + c) d) (sym few_size)
          ∙ sym (sets-eq (take n s) d at room) ∙ all_fit)
      split (yes h) =
          let i : start ≡ length d = omega (arith, u, h) in
          let z : n ≡ 0 = omega (arith, u, e, h) in
          rw (i, z)
          (ap (λ (l : List ℕ). l ++ drop 0 (drop (length d) d)) (take-length d)
          ∙ ap (λ (l : List ℕ). d ++ l) (drop_of_length-le d {i = length d} (omega arith)) ∙ append-nil d ∙ sym (sets_out d at s (omega arith)))

-- one byte
module _ (d : List ℕ) (at x : ℕ) where
  pub put_one : at < length d → Puts d at (x ∷ []) (at + 1) (set d at x)
  unfolding written position_after
  put_one h = (omega arith, refl)

  pub put_none : length d ≤ at → Puts d at (x ∷ []) at d
  unfolding written position_after
  put_none h = (omega arith, sym (set_out d at x h))

-- the digits are stored from the last to the first
module _ (n rest from : ℕ) (bytes : List ℕ) (size : length bytes ≡ 20) (most : from ≤ 20)
    (all : decimal n ≡ decimal rest ++ drop from bytes) where
  pub digit_step : 0 < from → 10 ≤ rest → decimal n ≡ decimal (rest / 10) ++ drop (from - 1)
      (set bytes (from - 1) (48 + rest % 10))
  digit_step h k =
      let e : from - 1 + 1 ≡ from = omega arith in
      all
      ∙ rw (decimal_more rest k, append_assoc, drop-set bytes (from - 1) (48 + rest % 10) (omega (arith, size)), e)

  pub digit_last : 0 < from → rest < 10 → drop (from - 1) (set bytes (from - 1) (48 + rest)) ≡ decimal n
  digit_last h k =
      let e : from - 1 + 1 ≡ from = omega arith in
      sym (all ∙ rw (decimal_one rest k, drop-set bytes (from - 1) (48 + rest) (omega (arith, size)), e))

pub length_more : (n : ℕ) → 10 ≤ n → length (decimal n) ≡ length (decimal (n / 10)) + 1
length_more n h = ap length (decimal_more n h) ∙ length-append (decimal (n / 10)) ((48 + n % 10) ∷ [])
