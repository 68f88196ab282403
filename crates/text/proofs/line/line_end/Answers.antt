-- `text::line::line_end` meets its contract.
use Rattle.text.proofs.Split.{end_fed, end_last}
use Rattle.text.proofs.line.line_end.Goals as goal

pub returns-then-end-text : goal.returns-then-end-text
returns-then-end-text c = end_fed _ _ _ c.scan-end.ensures c.if-end-text.true

pub returns-else-end-text : goal.returns-else-end-text
returns-else-end-text c = end_last _ _ _ c.scan-end.ensures c.if-end-text.false
