-- What a call's note decides: refusal code, samples, registers and count depend on it only by 14, 15 and 16.
use mathlib.Core.Path.{◌≡◌, refl, sym, ap, ◌∙◌}
use mathlib.Core.Bool.{Bool, true, false, cond}
use mathlib.Core.List.{List, [], ◌∷◌}
use mathlib.Core.Logic.{◌⊎◌, inl, inr}
use Prim.Native.Nat.{ℕ, ◌*◌, ◌/◌}
use native.Mathlib.Omega.{arith}
use lib.Dec.{eqb}
use lib.IntN.{ℤ}
use lib.ListN.{length}
use Rattle.streams.specs.declared.Generator.{Generator}
use Rattle.streams.specs.Streams.{noted, cleared, record_code, open_code, none_open_code, asked_code, taken_code, length_code, count_code, first_cause}
use Rattle.streams.specs.Streams.{Call, note_code, own_code, room_code, code_of}
use Rattle.streams.specs.Streams.Call.{numbers, a_pair, a_skip, a_Block, a_look, an_ask, a_take, give_up}
use Rattle.streams.specs.Recurrence.{Sound}
use Rattle.streams.proofs.Causes.{accepted_causes, just_taken}
use Rattle.streams.proofs.Theorems.{sound_cleared, pairs_accepted}
use Rattle.noise.specs.Noise.{pair_of, samples, block_code, block_holds, look_holds, take_holds}
use Rattle.noise.specs.Runs.{returned, pairs_out, handed}
use Rattle.noise.proofs.Laws.{block_accepted, samples_noted}
use Rattle.noise.proofs.Runs.{call_moves}
use Rattle.noise.proofs.Theorems.{block_holds_lem}

-- ---- Numbers

abbrev pub ByNote : ℕ → Type 0
ByNote code = (code ≡ 14) ⊎ ((code ≡ 15) ⊎ (code ≡ 16))

-- Two refusal codes differ for the note alone.
abbrev pub Alike : ℕ → ℕ → Type 0
Alike m n = ByNote m ⊎ (ByNote n ⊎ (m ≡ n))

-- behind a first cause that both share
alike_behind : (r m n : ℕ) → Alike m n → Alike (cond (eqb r 0) m r) (cond (eqb r 0) n r)
alike_behind r m n h = by_test (eqb r 0)
  where
    by_test : (t : Bool) → Alike (cond t m r) (cond t n r)
    by_test true = h
    by_test false = inr (inr refl)

-- 14 or not, and then the same causes
open_alike : (g h : Generator) (causes : List ℕ) → Alike (first_cause (open_code g ∷ causes)) (first_cause (open_code h ∷ causes))
unfolding open_code
open_alike g h causes = by_tests (eqb g.waiting 0) (eqb h.waiting 0)
  where
    by_tests : (t u : Bool) → Alike (first_cause (cond t 0 14 ∷ causes)) (first_cause (cond u 0 14 ∷ causes))
    by_tests true true = inr (inr refl)
    by_tests true false = inr (inl (inl refl))
    by_tests false u = inl (inl refl)

-- 15 or not, and then causes that are alike
none_alike : (g h : Generator) (l m : List ℕ) → Alike (first_cause l) (first_cause m)
    → Alike (first_cause (none_open_code g ∷ l)) (first_cause (none_open_code h ∷ m))
unfolding none_open_code
none_alike g h l m rest = by_tests (eqb g.waiting 0) (eqb h.waiting 0)
  where
    by_tests : (t u : Bool) → Alike (first_cause (cond t 15 0 ∷ l)) (first_cause (cond u 15 0 ∷ m))
    by_tests true u = inl (inr (inl refl))
    by_tests false true = inr (inl (inr (inl refl)))
    by_tests false false = rest

-- 16 or not
taken_or_not : (g : Generator) (n : ℕ) → (taken_code g n ≡ 0) ⊎ (taken_code g n ≡ 16)
unfolding taken_code
taken_or_not g n = by_tests (eqb (asked_code g.asked) 0) (eqb n (2 * g.asked))
  where
    Either : ℕ → Type 0
    Either code = (code ≡ 0) ⊎ (code ≡ 16)

    by_tests : (t u : Bool) → Either (cond t (cond u 0 16) 16)
    by_tests true true = inl refl
    by_tests true false = inr refl
    by_tests false u = inr refl

-- two that are taken into one block noted as many
as_many : (g : Generator) (waiting asked n : ℕ) → taken_code g n ≡ 0 → taken_code (noted g waiting asked) n ≡ 0 → g.asked ≡ asked
as_many g waiting asked n e f =
    let (_, first) = (just_taken g n).0 e in
    let (_, second) = (just_taken (noted g waiting asked) n).0 f in
    omega (arith, first, second)

take_alike : (g : Generator) (waiting asked n : ℕ)
    → Alike (first_cause (taken_code g n ∷ count_code g g.asked ∷ []))
    (first_cause (taken_code (noted g waiting asked) n ∷ count_code (noted g waiting asked) asked ∷ []))
unfolding count_code
take_alike g waiting asked n = by_cases (taken_or_not g n) (taken_or_not (noted g waiting asked) n)
  where
    by_cases : (taken_code g n ≡ 0) ⊎ (taken_code g n ≡ 16)
        → (taken_code (noted g waiting asked) n ≡ 0) ⊎ (taken_code (noted g waiting asked) n ≡ 16)
        → Alike (first_cause (taken_code g n ∷ count_code g g.asked ∷ []))
        (first_cause (taken_code (noted g waiting asked) n ∷ count_code (noted g waiting asked) asked ∷ []))
    by_cases (inr e) f = rw e (inl (inr (inr refl)))
    by_cases (inl e) (inr f) = rw f (inr (inl (inr (inr refl))))
    by_cases (inl e) (inl f) = rw (e, f, as_many g waiting asked n e f) (inr (inr refl))

-- The refusal code of a call on two records that differ in their notes is the same, or is 14, 15 or 16 for one of them.
pub note_numbers : (c : Call) (g : Generator) (waiting asked : ℕ) → Alike (code_of c g) (code_of c (noted g waiting asked))
unfolding code_of note_code own_code room_code record_code count_code
note_numbers c g waiting asked = by_call c
  where
    other : Generator
    other = noted g waiting asked

    opened : (causes : List ℕ)
        → Alike (first_cause (record_code g ∷ open_code g ∷ causes)) (first_cause (record_code g ∷ open_code other ∷ causes))
    opened causes = alike_behind (record_code g) _ _ (open_alike g other causes)

    closed : (l m : List ℕ) → Alike (first_cause l) (first_cause m)
        → Alike (first_cause (record_code g ∷ none_open_code g ∷ l)) (first_cause (record_code g ∷ none_open_code other ∷ m))
    closed l m rest = alike_behind (record_code g) _ _ (none_alike g other l m rest)

    by_call : (c : Call) → Alike (code_of c g) (code_of c other)
    by_call numbers = opened (0 ∷ count_code g 1 ∷ [])
    by_call a_pair = opened (0 ∷ count_code g 1 ∷ [])
    by_call (a_skip n) = opened (0 ∷ count_code g n ∷ [])
    by_call (a_Block n) = opened (length_code n ∷ count_code g (n / 2) ∷ [])
    by_call (a_look n) = inr (inr refl)
    by_call (an_ask n) = opened (asked_code n ∷ count_code g n ∷ [])
    by_call (a_take n) =
        closed
        (taken_code g n ∷ count_code g g.asked ∷ [])
        (taken_code other n ∷ count_code other asked ∷ [])
        (take_alike g waiting asked n)
    by_call give_up = closed (0 ∷ 0 ∷ []) (0 ∷ 0 ∷ []) (inr (inr refl))

-- ---- Registers and count

-- Both accepted, it leaves the same registers and count.
pub note_records : (c : Call) (g : Generator) (waiting asked : ℕ) → Sound g → code_of c g ≡ 0 → code_of c (noted g waiting asked) ≡ 0
    → cleared (returned c g).next ≡ cleared (returned c (noted g waiting asked)).next
unfolding handed
note_records c g waiting asked h e f =
    let other : Generator = noted g waiting asked in
    let same : pairs_out c g ≡ pairs_out c other = same_pairs c ((accepted_causes c g).0 e).2 ((accepted_causes c other).0 f).2 in
    call_moves c g h
    ∙ rw (e, f, same) refl
    ∙ sym (call_moves c other ((sound_cleared other).1 ((sound_cleared g).0 h)))
  where
    same_pairs : (c : Call) → own_code c g ≡ 0 → own_code c (noted g waiting asked) ≡ 0
        → pairs_out c g ≡ pairs_out c (noted g waiting asked)
    same_pairs numbers x y = unfold pairs_out in refl
    same_pairs a_pair x y = unfold pairs_out in refl
    same_pairs (a_skip n) x y = unfold pairs_out in refl
    same_pairs (a_Block n) x y = unfold pairs_out in refl
    same_pairs (a_look n) x y = unfold pairs_out in refl
    same_pairs (an_ask n) x y = unfold pairs_out in refl
    same_pairs (a_take n) x y = unfold pairs_out own_code in as_many g waiting asked n x y
    same_pairs give_up x y = unfold pairs_out in refl

-- ---- Samples

-- Both accepted, it gives the same samples: a block, a take and a pair; a look always.
pub note_blocks : (f : ℕ) (g : Generator) (waiting asked : ℕ) (old : List ℤ) → Sound g
    → block_code g (length old) ≡ 0 → block_code (noted g waiting asked) (length old) ≡ 0
    → block_holds f g old ≡ block_holds f (noted g waiting asked) old
note_blocks f g waiting asked old h e there =
    let n = length old / 2 in
    let (_, room, none) = (pairs_accepted g n).0 ((block_accepted g (length old)).0 e).0 in
    let (_, _, none-there) = (pairs_accepted (noted g waiting asked) n).0 ((block_accepted (noted g waiting asked) (length old)).0 there).0 in
    block_holds_lem f g old e
    ∙ sym (block_holds_lem f (noted g waiting asked) old there
    ∙ ap (λ (w : ℕ). samples f n (noted g w asked)) none-there
    ∙ samples_noted f n asked g h none room)

pub note_takes : (f : ℕ) (g : Generator) (waiting asked : ℕ) (old : List ℤ)
    → code_of (a_take (length old)) g ≡ 0 → code_of (a_take (length old)) (noted g waiting asked) ≡ 0
    → take_holds f g old ≡ take_holds f (noted g waiting asked) old
unfolding take_holds own_code
note_takes f g waiting asked old e there =
    let own = ((accepted_causes (a_take (length old)) g).0 e).2 in
    let own-there = ((accepted_causes (a_take (length old)) (noted g waiting asked)).0 there).2 in
    rw (e, there) (ap (λ (n : ℕ). samples f n (cleared g)) (as_many g waiting asked (length old) own own-there))

pub note_pairs : (f : ℕ) (g : Generator) (waiting asked : ℕ) → Sound g → code_of (a_skip 1) g ≡ 0 → code_of (a_skip 1) (noted g waiting asked) ≡ 0
    → (pair_of f g).first ∷ (pair_of f g).second ∷ [] ≡ (pair_of f (noted g waiting asked)).first ∷ (pair_of f (noted g waiting asked)).second ∷ []
unfolding samples
note_pairs f g waiting asked h e there =
    let (_, room, none) = (pairs_accepted g 1).0 e in
    let (_, _, none-there) = (pairs_accepted (noted g waiting asked) 1).0 there in
    sym (ap (λ (w : ℕ). samples f 1 (noted g w asked)) none-there ∙ samples_noted f 1 asked g h none room)

pub note_looks : (f : ℕ) (g : Generator) (waiting asked : ℕ) (old : List ℤ) → look_holds f g old ≡ look_holds f (noted g waiting asked) old
unfolding look_holds
note_looks f g waiting asked old = refl
