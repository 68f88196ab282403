-- `survex_reader::leg::fields_of` meets its contract.
use Rattle.std.proofs.Common.{sym, ◌∙◌}
use Rattle.survex_reader.proofs.Words.{just_five, fields_are}
use Rattle.survex_reader.proofs.leg.fields_of.Goals as goal

pub returns-then-not-is_last : goal.returns-then-not-is_last
returns-then-not-is_last c =
    sym (just_five c.args.line.now _ _ _ _ _ _ c.word_at-from.ensures c.word_at-to.ensures c.word_at-tape.ensures c.word_at-compass.ensures c.word_at-clino.ensures c.word_at-more.ensures)
    ∙ sym c.is_last.ensures ∙ c.if-not-is_last.true

pub returns : goal.returns
returns c = (
  sym (just_five c.args.line.now _ _ _ _ _ _ c.word_at-from.ensures c.word_at-to.ensures c.word_at-tape.ensures c.word_at-compass.ensures c.word_at-clino.ensures c.word_at-more.ensures)
      ∙ sym c.is_last.ensures ∙ c.if-not-is_last.false,
  fields_are c.args.line.now _ _ _ _ _ _ c.word_at-from.ensures c.word_at-to.ensures c.word_at-tape.ensures c.word_at-compass.ensures c.word_at-clino.ensures c.word_at-more.ensures,
)
