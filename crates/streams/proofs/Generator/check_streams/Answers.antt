-- `Generator::check_streams`: where a is fit after all, b is not.
use Rattle.std.proofs.Common.{sym, ◌∙◌}
use mathlib.Core.Bool.{true≢false}
use Rattle.streams.specs.Streams.{record_code}
use Rattle.streams.proofs.Generator.check_streams.Goals as goal
use Rattle.streams.proofs.Generator.check_streams.Goals.{else-is_fit-via-then-is_fit+else-is_fit-2, else-is_fit-via-else-is_fit}

pub returns : goal.returns
unfolding record_code
returns c =
    elim c.else-is_fit.branch [
      | else-is_fit-via-then-is_fit+else-is_fit-2 w ↦
          rw (← c.is_fit.ensures, w.if-is_fit.true, ← w.is_fit-then-is_fit.ensures, w.if-is_fit-2.false)
      | else-is_fit-via-else-is_fit w ↦
          absurd (true≢false (sym c.if-not-is_fit.false ∙ c.is_fit-2.ensures ∙ sym c.is_fit.ensures ∙ w.if-is_fit.false))
    ]
