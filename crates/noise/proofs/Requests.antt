-- What is proved of looks, and of requests that are asked for, taken or given up (document 02, Jobs 6 and 7). `Sound g` says that the streams of
-- g are fit and its registers have 32 bits.
use mathlib.Core.Path.{◌≡◌, refl, sym, ap, ◌∙◌}
use mathlib.Core.List.{List}
use mathlib.Core.Logic.{◌↔◌}
use Prim.Native.Nat.{ℕ, ◌+◌, ◌*◌, ◌/◌, ◌≤◌}
use native.Mathlib.Omega.{arith}
use lib.IntN.{ℤ}
use lib.ListN.{length}
use Rattle.streams.specs.declared.Generator.{Generator}
use Rattle.streams.specs.declared.RecordAnswer.{RecordAnswer}
use Rattle.streams.specs.Streams.{noted, cleared, record_code, open_code, most_asked, most_count, count_code, note_code, own_code, room_code}
use Rattle.streams.specs.Streams.{code_of, after, ask_of, give_up_of}
use Rattle.streams.specs.Streams.Call.{an_ask, a_take, give_up}
use Rattle.streams.specs.Recurrence.{Sound, moved}
use Rattle.streams.proofs.Causes.{accepted_causes, none_open, one_open, few_asked, count_room}
use Rattle.streams.proofs.Theorems.{sound_cleared, pairs_accepted, after_moved}
use Rattle.noise.specs.Noise.{samples, block_code, block_of, block_holds, look_of, look_holds, take_of, take_holds}
use Rattle.noise.proofs.Laws.{block_accepted, take_accepted, samples_noted}
use Rattle.noise.proofs.Theorems.{block_holds_lem, block_moves}

-- ---- Looks

-- A look has the refusal code of a block call on the record with its note cleared, and leaves the same memory; record and note come back as passed.
pub look_is : (f : ℕ) (g : Generator) (old : List ℤ)
    → ((look_of g (length old)).code ≡ (block_of (cleared g) (length old)).code)
    × (look_holds f g old ≡ block_holds f (cleared g) old)
    × ((look_of g (length old)).next ≡ g)
unfolding look_of look_holds
look_is f g old = (refl, refl, refl)

-- Where none is open, the note decides nothing of a block's refusal code.
same_code : (g : Generator) → g.waiting ≡ 0 → (n : ℕ) → block_code g n ≡ block_code (cleared g) n
unfolding code_of note_code own_code room_code record_code open_code count_code
same_code g none n = rw none refl

-- A look and then a block as long, none being open: both accepted or both refused; the block's record is as without the look; and, accepted, the
-- same samples twice.
pub look_block : (f : ℕ) (g : Generator) (x y : List ℤ) → Sound g → g.waiting ≡ 0 → length x ≡ length y
    → ((block_of g (length y)).code ≡ (look_of g (length x)).code)
    × (block_of (look_of g (length x)).next (length y) ≡ block_of g (length y))
    × ((look_of g (length x)).code ≡ 0 → block_holds f (look_of g (length x)).next y ≡ look_holds f g x)
unfolding block_of look_of look_holds
look_block f g x y h none e = (
  rw e (same_code g none (length y)),
  refl,
  λ accepted.
      let shown : block_code (cleared g) (length y) ≡ 0 = rw (← e) accepted in
      let drawn : block_code g (length y) ≡ 0 = same_code g none (length y) ∙ shown in
      let (_, room, _) = (pairs_accepted g (length y / 2)).0 ((block_accepted g (length y)).0 drawn).0 in
      rw (block_holds_lem f (cleared g) x accepted, block_holds_lem f g y drawn, e) (sym (samples_noted f (length y / 2) 0 g h none room)),
)

-- A look while a request is open shows the samples that taking it gives.
pub look_take : (f : ℕ) (g : Generator) (x y : List ℤ) → length x ≡ length y → code_of (a_take (length y)) g ≡ 0
    → take_holds f g y ≡ look_holds f g x
unfolding look_holds take_holds record_code
look_take f g x y e accepted =
    let (fits, _, _, just, room) = (take_accepted g (length y)).0 accepted in
    let half : length x / 2 ≡ g.asked = omega (arith, e, just) in
    let shown : block_code (cleared g) (length x) ≡ 0
    = (block_accepted (cleared g) (length x)).1
    ((pairs_accepted (cleared g) (length x / 2)).1 (fits, rw half room, refl), omega (arith, e, just)) in
    rw (take_holds, accepted, block_holds_lem f (cleared g) x shown, half)

-- ---- Asking

-- An ask is accepted just where the streams are fit, none is open, and n is at most the most and has room in the count; it then notes n, moves
-- nothing, and a request is open, for 0 too.
pub ask_accepted : (g : Generator) (n : ℕ)
    → ((ask_of g n).code ≡ 0) ↔ ((record_code g ≡ 0) × (g.waiting ≡ 0) × (n ≤ most_asked) × (g.count + n ≤ most_count))
unfolding ask_of note_code own_code room_code
ask_accepted g n = (
  λ h.
      let (fits, note, own, room) = (accepted_causes (an_ask n) g).0 h in
      (fits, (none_open g).0 note, (few_asked n).0 own, (count_room g n).0 room),
  λ h. (accepted_causes (an_ask n) g).1 (h.0, (none_open g).1 h.1, (few_asked n).1 h.2, (count_room g n).1 h.3),
)

pub ask_notes : (g : Generator) (n : ℕ) → (ask_of g n).code ≡ 0 → (ask_of g n).next ≡ noted g 1 n
unfolding ask_of
ask_notes g n e = rw (ask_of, e)

-- Asking for n pairs and then taking 2n samples gives the samples, registers and count of one block call, and no open note,
pub ask_take : (f : ℕ) (g : Generator) (n : ℕ) (old : List ℤ) → Sound g → length old ≡ 2 * n → (ask_of g n).code ≡ 0
    → ((block_of g (length old)).code ≡ 0)
    × (take_of (ask_of g n).next (length old) ≡ record { code = 0; next = cleared (block_of g (length old)).next })
    × (take_holds f (ask_of g n).next old ≡ block_holds f g old)
unfolding block_of take_of take_holds record_code
ask_take f g n old h l e =
    let (fits, none, few, room) = (ask_accepted g n).0 e in
    let asked-for : Generator = noted g 1 n in
    let half : length old / 2 ≡ n = omega (arith, l) in
    let block-is : block_code g (length old) ≡ 0
    = (block_accepted g (length old)).1 ((pairs_accepted g (length old / 2)).1 (fits, rw half room, none), omega (arith, l)) in
    let taken : code_of (a_take (length old)) asked-for ≡ 0
    = (take_accepted asked-for (length old)).1 (fits, (λ z. absurd (omega (arith, z))), few, l, room) in
    let taken_is : take_of asked-for (length old) ≡ record { code = 0; next = after n (cleared g) } = rw (take_of, taken) in
    let held : take_holds f asked-for old ≡ samples f n (cleared g) = rw (take_holds, taken) in
    let on : (block_of g (length old)).next ≡ moved n g
    = ap (λ (r : RecordAnswer). r.next) (block_moves g (length old) h block-is) ∙ ap (λ (m : ℕ). moved m g) half in (
      block-is,
      ap (λ (r : Generator). take_of r (length old)) (ask_notes g n e)
          ∙ taken_is
          ∙ ap (λ (next : Generator). record { code = 0; next = next })
          (after_moved n (cleared g) ((sound_cleared g).0 h) refl room ∙ sym (ap cleared on)),
      ap (λ (r : Generator). take_holds f r old) (ask_notes g n e)
          ∙ held
          ∙ samples_noted f n 0 g h none room
          ∙ sym (block_holds_lem f g old block-is ∙ ap (λ (m : ℕ). samples f m g) half),
    )

-- and asking and giving up gives back the record as it was before, with a cleared note.
pub ask_give_up : (g : Generator) (n : ℕ) → (ask_of g n).code ≡ 0 → give_up_of (ask_of g n).next ≡ record { code = 0; next = cleared g }
unfolding give_up_of record_code note_code own_code room_code
ask_give_up g n e =
    let (fits, _, _, _) = (ask_accepted g n).0 e in
    let accepted : code_of give_up (noted g 1 n) ≡ 0
    = (accepted_causes give_up (noted g 1 n)).1 (fits, (one_open (noted g 1 n)).1 (λ z. absurd (omega (arith, z))), refl, refl) in
    rw (ask_notes g n e, give_up_of, accepted)
