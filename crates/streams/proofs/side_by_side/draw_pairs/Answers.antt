-- `draw_pairs` leaves the words of as many pairs as there is room for. The loop has drawn i of them.
use Rattle.std.proofs.Common.{◌≡◌, refl, sym, ap, subst, ◌∙◌, List, ℕ, ◌+◌, ◌<◌, add-one, arith, length, set, length-set, take-suc-set, take_all}
use Rattle.bit_matrix.specs.Matrices.{repeat}
use Rattle.bit_matrix.proofs.Theorems.{repeat_add}
use Rattle.streams.specs.declared.Stream.{Stream}
use Rattle.streams.specs.Streams.{advance}
use Rattle.streams.specs.declared.Lanes.{Lanes}
use Rattle.streams.specs.Lanes.{upper, lower, word_of, words, LanesAfter}
use Rattle.streams.specs.Private.{lanes_of}
use Rattle.streams.proofs.LaneLaws.{upper_is, lower_is, lower_range, words_add}
use Rattle.streams.proofs.side_by_side.draw_pairs.Goals as goal
use Rattle.streams.proofs.side_by_side.draw_pairs.Invariants.{Reached}

-- one step more is a step of what is reached
once_more : (i : ℕ) (u v : Stream) → u ≡ repeat advance i v → advance u ≡ repeat advance (i + 1) v
unfolding repeat
once_more i u v e = ap advance e ∙ repeat_add advance i 1 v

-- one pair more
again : {z₀ z : List ℕ} {start state next : Lanes} {i x : ℕ} → Reached z₀ start z state i
    → next ≡ lanes_of (advance (upper state)) (advance (lower state)) → x ≡ word_of (upper next) (lower next) → i < length z
    → Reached z₀ start (set z i x) next (i + 1)
unfolding words repeat
again {z₀} {z} {start} {state} {next} {i} {x} r step word h =
    let a-is : upper next ≡ advance (upper state) = ap upper step ∙ upper_is _ _ (lower_range state) in
    let b-is : lower next ≡ advance (lower state) = ap lower step ∙ lower_is _ _ (lower_range state) in
    record {
      kept = simp length-set r.kept;
      now_at = record { a_at = a-is ∙ once_more i _ _ r.now_at.a_at; b_at = b-is ∙ once_more i _ _ r.now_at.b_at };
      done = rw (words_add i 1 (upper start) (lower start), add-one i, take-suc-set z i x h, r.done, word, a-is, b-is, r.now_at.a_at, r.now_at.b_at);
    }

pub loop-word-init : goal.loop-word-init
unfolding words repeat
loop-word-init c = record { kept = refl; now_at = record { a_at = refl; b_at = refl }; done = refl }

pub loop-word-preserved : goal.loop-word-preserved
loop-word-preserved c =
    again c.loop-word.invariant c.advanced-state.ensures c.word.ensures (omega (arith, c.loop-word-test.true, c.loop-word.invariant.kept))
