-- `step_matrices`: the first j columns are the step at the first j unit words.
use Rattle.std.proofs.Common.{◌≡◌, refl, sym, ap, ◌∙◌, List, map, ℕ, ◌+◌, ◌≤◌, ◌<◌, arith, length, get_or, set, length-set}
use Rattle.bit_matrix.specs.Matrices.{units, matrix_of}
use Rattle.bit_matrix.proofs.Loops.{map_turn, map_end}
use Rattle.streams.specs.declared.Stream.{Stream}
use Rattle.streams.specs.Streams.{advance}
use Rattle.streams.proofs.ahead.step_matrices.Goals as goal
use Rattle.streams.proofs.ahead.step_matrices.Invariants.{Stepped}

module _ {f : ℕ → ℕ} {j : ℕ} {words columns : List ℕ} (is : words ≡ units 32) (r : Stepped f j words columns) where
  size : length words ≡ 32
  size = ap length is ∙ unfold units in refl

  again : {v : ℕ} → j < 32 → v ≡ f (get_or words j 0) → Stepped f (j + 1) words (set columns j v)
  again {v} h e =
      record {
        size = simp length-set r.size;
        done = map_turn f words columns j v (omega (arith, size)) (omega (arith, size, r.size)) e ∙ r.done;
      }

  ended : 32 ≤ j → columns ≡ matrix_of f
  unfolding matrix_of
  ended h = sym (map_end f words columns j (omega (arith, size)) (omega (arith, size, r.size))) ∙ r.done ∙ ap (map f) is

pub loop-j-init : goal.loop-j-init
loop-j-init c = (record { size = refl; done = refl }, record { size = refl; done = refl }, record { size = refl; done = refl })

pub loop-j-preserved : goal.loop-j-preserved
unfolding advance
loop-j-preserved c =
    let (r0, r1, r2) = c.loop-j.invariant in
    let words = c.identity.ensures in
    let column = c.advanced-column.ensures in
    let below = c.loop-j-test.true in (
      again words r0 below (ap (λ (u : Stream). u.s0) column),
      again words r1 below (ap (λ (u : Stream). u.s1) column),
      again words r2 below (ap (λ (u : Stream). u.s2) column),
    )

pub returns : goal.returns
returns c =
    let (r0, r1, r2) = c.loop-j.invariant in
    let words = c.identity.ensures in
    let all = c.loop-j-test.false in
    record { s0 = ended words r0 all; s1 = ended words r1 all; s2 = ended words r2 all }
