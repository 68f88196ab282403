-- `survex_reader::leg::numbers_of` meets its contract.
use Rattle.std.proofs.Common.{ℕ, ap, sym, subst, ◌∙◌, List}
use Rattle.text.specs.Fields.{name}
use Rattle.survex_reader.specs.Legs.{words, Reads}
use Rattle.survex_reader.proofs.Legs.{unnamed, nowhere, unmeasured, undirected, numbers_are}
use Rattle.survex_reader.proofs.leg.numbers_of.Goals as goal

pub returns-then-not-name_at : goal.returns-then-not-name_at
returns-then-not-name_at c = unnamed (words c.args.line.now) (sym c.if-not-name_at.true ∙ c.name_at.ensures ∙ ap name c.requires.from)

pub returns-then-not-name_at-2 : goal.returns-then-not-name_at-2
returns-then-not-name_at-2 c =
    nowhere (words c.args.line.now) (sym c.if-not-name_at.false ∙ c.name_at.ensures ∙ ap name c.requires.from)
    (sym c.if-not-name_at-2.true ∙ c.name_at-2.ensures ∙ ap name c.requires.to)

pub returns-in_err-tape : goal.returns-in_err-tape
returns-in_err-tape c =
    rw c.from_residual.ensures
    (unmeasured (words c.args.line.now)
    (sym c.if-not-name_at.false ∙ c.name_at.ensures ∙ ap name c.requires.from)
    (sym c.if-not-name_at-2.false ∙ c.name_at-2.ensures ∙ ap name c.requires.to)
    _ (subst (λ (l : List ℕ). Reads 3 l c.decimal_of.result) (c.part.ensures ∙ c.requires.tape) c.decimal_of.ensures) c.in_err-tape.was)

pub returns-in_err-compass : goal.returns-in_err-compass
returns-in_err-compass c =
    rw c.from_residual-in_err-compass.ensures
    (undirected (words c.args.line.now)
    (sym c.if-not-name_at.false ∙ c.name_at.ensures ∙ ap name c.requires.from)
    (sym c.if-not-name_at-2.false ∙ c.name_at-2.ensures ∙ ap name c.requires.to)
    _ (subst (λ (l : List ℕ). Reads 3 l c.decimal_of.result) (c.part.ensures ∙ c.requires.tape) c.decimal_of.ensures) _ c.in_ok-tape.was
    _ (subst (λ (l : List ℕ). Reads 2 l c.decimal_of-2.result) (c.part-2.ensures ∙ c.requires.compass) c.decimal_of-2.ensures) c.in_err-compass.was)

pub returns : goal.returns
returns c =
    numbers_are (words c.args.line.now)
    (sym c.if-not-name_at.false ∙ c.name_at.ensures ∙ ap name c.requires.from)
    (sym c.if-not-name_at-2.false ∙ c.name_at-2.ensures ∙ ap name c.requires.to)
    _ (subst (λ (l : List ℕ). Reads 3 l c.decimal_of.result) (c.part.ensures ∙ c.requires.tape) c.decimal_of.ensures) _ c.in_ok-tape.was
    _ (subst (λ (l : List ℕ). Reads 2 l c.decimal_of-2.result) (c.part-2.ensures ∙ c.requires.compass) c.decimal_of-2.ensures) _ c.in_ok-compass.was
