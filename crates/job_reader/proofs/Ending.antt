-- From the lines to the answer.
use Prim.Native.Nat.{ℕ, ◌≤◌, ◌<◌}
use mathlib.Core.Path.{◌≡◌, ◌∙◌}
use mathlib.Core.List.{List}
use lib.ListN.{length}
use borrow.Author.Tests.{lt-ltb, le-ltb}
use Rattle.std.specs.Prelude.{Result}
use Rattle.text.specs.Scan.{lines}
use Rattle.job_reader.specs.Limits.{most_bytes}
use Rattle.job_reader.specs.Loop as loop
use Rattle.job_reader.specs.Private.{ended_in, Ended}
use Rattle.job_reader.specs.declared.refusals.BadLine.{BadLine}
use Rattle.job_reader.specs.declared.loops.Loop.{Loop}
use Rattle.job_reader.specs.declared.loops.LoopShot.{LoopShot}

pub loop_long : (text : List ℕ) (memory : List LoopShot) → most_bytes < length text → (loop.loop_of text ≡ loop.refused 5 0) × (loop.memory_after text memory ≡ memory)
unfolding loop.loop_of loop.bad_line loop.memory_after
loop_long text memory h = (rw (lt-ltb most_bytes (length text) h), rw (lt-ltb most_bytes (length text) h))

pub loop_ended : (text : List ℕ) (old new : List LoopShot) (r : Result Loop BadLine) → length text ≤ most_bytes → Ended (lines text) old new r
    → (ended_in r ≡ loop.answer_of (loop.loop_of text)) × (new ≡ loop.memory_after text old)
unfolding loop.loop_of loop.bad_line loop.memory_after
loop_ended text old new r short e = (e.answer ∙ rw (le-ltb most_bytes (length text) short), e.memory ∙ rw (le-ltb most_bytes (length text) short))
