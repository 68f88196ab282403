-- A refused call changes no word of the caller's record.
use Prim.Native.Nat.{ℕ, zero, suc, ◌+◌, ◌*◌, ◌/◌, ◌%◌, ◌^◌}
use native.Mathlib.Omega.{arith}
use mathlib.Core.Path.{◌≡◌, refl, sym, ap, ◌∙◌}
use mathlib.Core.List.{List, [], ◌∷◌}
use lib.ListN.{length, get_or, drop, drop_of_length-le}
use lib.Seq.{drop-cons}
use borrow.Author.Tests.{ne_eqb}
use Rattle.streams.specs.Streams.{Call, if_accepted}
use Rattle.streams.specs.Streams.Call.{a_pair, a_skip, a_Block, an_ask, a_take, give_up}
use Rattle.noise.specs.Noise.{pair_of}
use Rattle.noise.specs.Runs.{returned}
use Rattle.noise.proofs.Runs.{returned_code, next_is, left_by}
use Rattle.jabulghi.specs.Words.{words_of, generator_of}
use Rattle.jabulghi.specs.Refused.{TenWords, Unchanged, RefusedCalls}

-- n elements of a list, from i on
abbrev some : List ℕ → ℕ → ℕ → List ℕ
some l i zero = []
some l i (suc n) = get_or l i 0 ∷ some l (suc i) n

to_the_end : (l : List ℕ) (n i : ℕ) → length l ≡ i + n → drop i l ≡ some l i n
to_the_end l zero i e = drop_of_length-le l {i = i} (omega (arith, e))
to_the_end l (suc n) i e =
    drop-cons l i 0 (omega (arith, e)) ∙ ap (λ (t : List ℕ). get_or l i 0 ∷ t) (to_the_end l n (suc i) (omega (arith, e)))

module _ (words : List ℕ) (given : TenWords words) where
  same : words_of (generator_of words) ≡ words
  same =
      let low = get_or words 6 0 in
      let high = get_or words 7 0 in
      let low-is : (high * 2 ^ 32 + low) % 2 ^ 32 ≡ low = omega (arith, given.bits 6) in
      let high_is : (high * 2 ^ 32 + low) / 2 ^ 32 ≡ high = omega (arith, given.bits 6) in
      rw (low-is, high_is) (sym (to_the_end words 10 0 given.ten))

  -- of any call: refused, it returns the record passed in
  unchanged : (c : Call) → Unchanged words (returned c (generator_of words)).code (returned c (generator_of words)).next
  unchanged c h =
      let g = generator_of words in
      let refused : if_accepted (returned c g).code (left_by c g) g ≡ g = rw (ne_eqb (returned c g).code 0 h) refl in
      ap words_of (next_is c g ∙ rw (returned_code c g) at refused) ∙ same

  pub refused_calls : RefusedCalls words
  unfolding returned pair_of
  refused_calls =
      record {
        again = same;
        pair = λ f. unchanged a_pair;
        block = λ n. unchanged (a_Block n);
        skip = λ n. unchanged (a_skip n);
        ask = λ n. unchanged (an_ask n);
        take = λ n. unchanged (a_take n);
        give_up = unchanged give_up;
      }
