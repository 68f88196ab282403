-- `text::form::read_form` meets its contract.
use Rattle.text.proofs.Steps.{Fits}
use Rattle.text.proofs.form.read_form.Given as goal

abbrev pub invariant-loop-f : goal.invariant-loop-f
invariant-loop-f g l = Fits g.row.N l.form l.line l.at l.count l.places l.f-index
