-- The history of a run tells the count; no later record is unfit.
use mathlib.Core.Path.{◌≡◌, refl, ◌∙◌}
use mathlib.Core.Bool.{Bool, true, false, cond}
use mathlib.Core.List.{List, [], ◌∷◌}
use Prim.Native.Nat.{ℕ, ◌+◌, ◌/◌}
use native.Mathlib.Omega.{arith}
use lib.Dec.{eqb}
use borrow.Author.Tests.{eqb-true}
use Rattle.streams.specs.declared.Stream.{Stream}
use Rattle.streams.specs.declared.Generator.{Generator}
use Rattle.streams.specs.Streams.{Call, record_code, if_accepted, code_of}
use Rattle.streams.specs.Streams.Call.{numbers, a_pair, a_skip, a_Block, a_look, an_ask, a_take, give_up}
use Rattle.streams.specs.Recurrence.{InRange, seed_from}
use Rattle.streams.proofs.Theorems.{sound_accepted, seeded}
use Rattle.noise.specs.Runs.{returned, run, sum_over, pairs_out, handed}
use Rattle.noise.proofs.Laws.{take_accepted}
use Rattle.noise.proofs.Runs.{returned_code, run_sound, run_count, count_from_seeding}
use Rattle.histories.specs.Histories.{history_of, figure, count_of}

-- An accepted take of n samples hands out n / 2 pairs, as many as were noted.
pub taken_half : (g : Generator) (n : ℕ) → code_of (a_take n) g ≡ 0 → g.asked ≡ n / 2
taken_half g n e =
    let (_, _, _, just, _) = (take_accepted g n).0 e in
    omega (arith, just)

-- An accepted call hands out or skips its figure.
out_is_figure : (c : Call) (g : Generator) → code_of c g ≡ 0 → pairs_out c g ≡ figure c
unfolding pairs_out figure
out_is_figure numbers g e = refl
out_is_figure a_pair g e = refl
out_is_figure (a_skip n) g e = refl
out_is_figure (a_Block n) g e = refl
out_is_figure (a_look n) g e = refl
out_is_figure (an_ask n) g e = refl
out_is_figure (a_take n) g e = omega (arith, taken_half g n e)
out_is_figure give_up g e = refl

handed_is_figure : (c : Call) (g : Generator) → handed c g ≡ if_accepted (returned c g).code (figure c) 0
unfolding handed
handed_is_figure c g = rw (returned_code c g) (by_test (eqb (code_of c g) 0) refl)
  where
    by_test : (t : Bool) → eqb (code_of c g) 0 ≡ t → cond t (pairs_out c g) 0 ≡ cond t (figure c) 0
    by_test true e = out_is_figure c g (eqb-true _ _ e)
    by_test false e = refl

-- So the pairs handed out and skipped are told by the history.
pub handed_is_told : (l : List Call) (g : Generator) → sum_over handed l g ≡ count_of (history_of l g)
unfolding sum_over history_of count_of
handed_is_told [] g = refl
handed_is_told (c ∷ l) g = rw (handed_is_figure c g, handed_is_told l (returned c g).next)

pub told_count : (l : List Call) (g : Generator) → InRange g.a → InRange g.b
    → (run l g).count ≡ g.count + count_of (history_of l g)
told_count l g ra rb = run_count l g ra rb ∙ rw (handed_is_told l g)

pub told_from_seeding : (a b : Stream) → InRange a → InRange b → (l : List Call)
    → (run l (seed_from a b).next).count ≡ count_of (history_of l (seed_from a b).next)
told_from_seeding a b ra rb l = count_from_seeding a b ra rb l ∙ handed_is_told l (seed_from a b).next

-- Accepted seeds make fit streams for good.
pub fit_for_ever : (a b : Stream) → InRange a → InRange b → (seed_from a b).code ≡ 0
    → (l : List Call) → record_code (run l (seed_from a b).next) ≡ 0
fit_for_ever a b ra rb h l =
    let (is-fresh, is-sound) = seeded a b ra rb h in
    rw is-fresh (sound_accepted _ (run_sound l _ is-sound))
