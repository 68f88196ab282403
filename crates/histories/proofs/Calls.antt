-- One call on any record, fit or not.
use mathlib.Core.Path.{◌≡◌, refl, ◌∙◌}
use mathlib.Core.Bool.{Bool, true, false, cond}
use Prim.Native.Nat.{ℕ}
use lib.Dec.{eqb}
use borrow.Author.Tests.{eqb-true}
use Rattle.streams.specs.declared.Generator.{Generator}
use Rattle.streams.specs.Streams.{Call, noted, record_code, open_code, count_code, note_code, own_code, room_code, code_of}
use Rattle.streams.specs.Streams.{pairs_code, after, skip_of}
use Rattle.noise.specs.Noise.{block_of, look_of}
use Rattle.noise.specs.Runs.{returned}
use Rattle.noise.proofs.Runs.{left_by, next_is}

-- A refused call returns the record passed in.
pub refused_stays : (c : Call) (g : Generator) → (code_of c g ≡ 0 → ⊥) → (returned c g).next ≡ g
refused_stays c g h = next_is c g ∙ by_test (eqb (code_of c g) 0) refl
  where
    by_test : (t : Bool) → eqb (code_of c g) 0 ≡ t → cond t (left_by c g) g ≡ g
    by_test true e = absurd (h (eqb-true _ _ e))
    by_test false e = refl

pub same_either_way : (t : Bool) (g : Generator) → cond t g g ≡ g
same_either_way true g = refl
same_either_way false g = refl

-- A skip of 0 returns the record, accepted or refused.
pub skip_none : (g : Generator) → (skip_of g 0).next ≡ g
unfolding skip_of after
skip_none g = same_either_way (eqb (pairs_code g 0) 0) g

-- A look has the code of a block call on the same record with no request open, whatever that notes.
pub look_code : (g : Generator) (asked n : ℕ) → (look_of g n).code ≡ (block_of (noted g 0 asked) n).code
unfolding look_of block_of code_of note_code own_code room_code record_code open_code count_code
look_code g asked n = refl
