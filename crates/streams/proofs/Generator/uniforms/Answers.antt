-- `Generator::uniforms` is `uniforms_of`: each return rewrites with the call's refusal code.
use Rattle.std.proofs.Common.{sym, arith}
use Rattle.streams.specs.Streams.{uniforms_of}
use Rattle.streams.proofs.Refused.{number_not_0}
use Rattle.streams.proofs.Causes.{with_room}
use Rattle.streams.proofs.Theorems.{pairs_accepted}
use Rattle.streams.proofs.Generator.uniforms.Goals as goal

pub returns-in-Err : goal.returns-in-Err
unfolding uniforms_of
returns-in-Err c = rw (c.number.ensures, ← c.in-Err.ensures, number_not_0 _)

pub returns : goal.returns
unfolding uniforms_of
returns c =
    let room = ((pairs_accepted _ _).0 (sym c.in_default.ensures)).1 in
    rw (
      c.word-low.ensures,
      c.word-high.ensures,
      with_room _ _ _ c.onward-next.ensures (omega (arith, room)),
      c.advanced-b.ensures,
      c.advanced-a.ensures,
      ← c.in_default.ensures,
    )
