-- A block, a look and a take: what each returns and leaves, over f and so for either width.
use mathlib.Core.Path.{◌≡◌, refl, sym, ap, ◌∙◌}
use mathlib.Core.List.{List}
use Prim.Native.Nat.{ℕ, ◌+◌, ◌*◌, ◌/◌, ◌%◌, ◌≤◌}
use native.Mathlib.Omega.{arith}
use borrow.Author.Tests.{ne_eqb}
use lib.IntN.{ℤ}
use lib.ListN.{length}
use Rattle.streams.specs.declared.Generator.{Generator}
use Rattle.streams.specs.declared.RecordAnswer.{RecordAnswer}
use Rattle.streams.specs.Streams.{cleared, onward, most_count, code_of, pairs_code, if_accepted}
use Rattle.streams.specs.Streams.Call.{a_take}
use Rattle.streams.specs.Recurrence.{InRange, Sound}
use Rattle.streams.proofs.Theorems.{sound, pairs_accepted, after_moved}
use Rattle.streams.specs.declared.Lanes.{Lanes}
use Rattle.streams.specs.Lanes.{upper, lower}
use Rattle.noise.specs.Noise.{samples, block_code, block_of, block_holds, look_of, look_holds, take_of, take_holds}
use Rattle.sample.specs.Filled.{Filled}
use Rattle.noise.specs.Private.{PairsDrawn}
use Rattle.noise.proofs.Laws.{block_accepted, take_accepted, taken_pairs, samples_words}

-- ---- The pairs of an accepted record

-- its streams are in range, and memory is filled from them, side by side
abbrev StreamsFilled : (f : ℕ) → Generator → (u state : Lanes) → (old out : List ℤ) → Type 0
StreamsFilled f g u state old out = (InRange g.a × InRange g.b) × ((upper u ≡ g.a) × (lower u ≡ g.b)) × Filled f u state old out

-- memory of even length then holds the samples of its pairs; and the record after them
module _ (f : ℕ) (g : Generator) {u state : Lanes} {old out : List ℤ} (even : length old % 2 ≡ 0) (accepted : pairs_code g (length old / 2) ≡ 0)
    (filled : StreamsFilled f g u state old out) where
  reached : Sound g
  reached = sound g filled.0.0 filled.0.1 ((pairs_accepted g (length old / 2)).0 accepted).0

  drawn_samples_lem : out ≡ samples f (length old / 2) g
  drawn_samples_lem =
      let (_, room, none) = (pairs_accepted g (length old / 2)).0 accepted in
      let (_, same, lanes) = filled in
      (lanes.even even).written ∙ rw (same.0, same.1) (sym (samples_words f (length old / 2) g reached none room))

  drawn_pairs : {next : Generator} → next ≡ onward g (upper state) (lower state) (length old / 2) → PairsDrawn f (length old / 2) g next out
  drawn_pairs next_is =
      let (_, room, none) = (pairs_accepted g (length old / 2)).0 accepted in
      let (_, same, lanes) = filled in
      let moved = (lanes.even even).now_at in
      (next_is ∙ rw (moved.a_at, moved.b_at, same.0, same.1) (sym (after_moved (length old / 2) g reached none room)), drawn_samples_lem)

-- ---- A refusal code that a call has worked out

abbrev answer : ℕ → Generator → RecordAnswer
answer code next = record { code = code; next = next }

module _ {code wanted : ℕ} (after g : Generator) (new old : List ℤ) (code_is : code ≡ wanted) where
  -- refused, the record passed in and the memory as it was
  refused : (code ≡ 0 → ⊥) → (answer code g ≡ answer wanted (if_accepted wanted after g)) × (old ≡ if_accepted wanted new old)
  refused some = rw (← code_is, ne_eqb _ _ some) (refl, refl)

  -- accepted, what was asked for
  accepted : {next : Generator} {out : List ℤ} → code ≡ 0 → (next ≡ after) × (out ≡ new)
      → (answer code next ≡ answer wanted (if_accepted wanted after g)) × (out ≡ if_accepted wanted new old)
  accepted none done = rw (← code_is, none) (ap (answer 0) done.0, done.1)

-- ---- A block

module _ (g : Generator) (n : ℕ) {code : ℕ} (code_is : code ≡ block_code g n) (none : code ≡ 0) where
  block_pairs : pairs_code g (n / 2) ≡ 0
  block_pairs = ((block_accepted g n).0 (sym code_is ∙ none)).0

  block_even : n % 2 ≡ 0
  block_even = ((block_accepted g n).0 (sym code_is ∙ none)).1

  pub block_room : g.count + n / 2 ≤ most_count
  block_room = ((pairs_accepted g (n / 2)).0 block_pairs).1

-- memory of n elements, whose values are old
module _ (f : ℕ) (g : Generator) (old : List ℤ) {n : ℕ} (size : length old ≡ n) {code : ℕ} (code_is : code ≡ block_code g n) where
  block_is : code ≡ block_code g (length old)
  block_is = code_is ∙ ap (block_code g) (sym size)

  pub block_refused : (code ≡ 0 → ⊥) → (answer code g ≡ block_of g n) × (old ≡ block_holds f g old)
  unfolding block_of block_holds
  block_refused some = rw (← size) (refused _ _ _ _ block_is some)

  pub block_drawn : {u state : Lanes} {next : Generator} {out : List ℤ} → code ≡ 0 → StreamsFilled f g u state old out
      → next ≡ onward g (upper state) (lower state) (n / 2) → (answer code next ≡ block_of g n) × (out ≡ block_holds f g old)
  unfolding block_of block_holds
  block_drawn none filled next_is =
      rw (← size) (accepted _ _ _ _ block_is none (drawn_pairs f g (block_even g _ block_is none) (block_pairs g _ block_is none) filled (rw (← size) at next_is)))

-- ---- A look

module _ (f : ℕ) (g : Generator) (old : List ℤ) {n : ℕ} (size : length old ≡ n) {code : ℕ} {free : Generator} (free-is : free ≡ cleared g) (code_is : code ≡ block_code free n) where
  returned : answer code g ≡ look_of g n
  unfolding look_of block_of
  returned = rw (← free-is) (ap (λ (code : ℕ). answer code g) code_is)

  pub look_refused : (code ≡ 0 → ⊥) → (answer code g ≡ look_of g n) × (old ≡ look_holds f g old)
  unfolding look_holds
  look_refused some = (returned, rw (← free-is) (block_refused f free old size code_is some).1)

  pub look_drawn : {u state : Lanes} {out : List ℤ} → code ≡ 0 → StreamsFilled f free u state old out
      → (answer code g ≡ look_of g n) × (out ≡ look_holds f g old)
  unfolding look_holds block_holds
  look_drawn none filled =
      let is = block_is f free old size code_is in
      (returned, rw (← free-is, ← is, none) (drawn_samples_lem f free (block_even free _ is none) (block_pairs free _ is none) filled))

-- ---- A take

module _ (g : Generator) (n : ℕ) {code : ℕ} (code_is : code ≡ code_of (a_take n) g) (none : code ≡ 0) where
  -- two samples for each pair that was asked for
  just : n ≡ 2 * g.asked
  just = ((take_accepted g n).0 (sym code_is ∙ none)).3

  half : n / 2 ≡ g.asked
  half = omega (arith, just)

  take_even : n % 2 ≡ 0
  take_even = omega (arith, just)

  take_pairs : (free : Generator) → free ≡ cleared g → pairs_code free (n / 2) ≡ 0
  take_pairs free free-is = rw (free-is, half) (taken_pairs g n (sym code_is ∙ none))

  pub take_room : (free : Generator) → free ≡ cleared g → free.count + n / 2 ≤ most_count
  take_room free free-is = ((pairs_accepted free (n / 2)).0 (take_pairs free free-is)).1

module _ (f : ℕ) (g : Generator) (old : List ℤ) {n : ℕ} (size : length old ≡ n) {code : ℕ} (code_is : code ≡ code_of (a_take n) g) where
  take_is : code ≡ code_of (a_take (length old)) g
  take_is = code_is ∙ ap (λ (m : ℕ). code_of (a_take m) g) (sym size)

  pub take_refused : (code ≡ 0 → ⊥) → (answer code g ≡ take_of g n) × (old ≡ take_holds f g old)
  unfolding take_of take_holds
  take_refused some = rw (← size) (refused _ _ _ _ take_is some)

  pub take_drawn : (free : Generator) {u state : Lanes} {next : Generator} {out : List ℤ} → code ≡ 0 → free ≡ cleared g
      → StreamsFilled f free u state old out → next ≡ onward free (upper state) (lower state) (n / 2)
      → (answer code next ≡ take_of g n) × (out ≡ take_holds f g old)
  unfolding take_of take_holds
  take_drawn free none free-is filled next_is =
      let pairs = drawn_pairs f free (take_even g _ take_is none) (take_pairs g _ take_is none free free-is) filled (rw (← size) at next_is) in
      rw (← size) (accepted _ _ _ _ take_is none (rw (← free-is, ← half g _ take_is none) pairs))
