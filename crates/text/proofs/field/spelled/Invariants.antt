-- `text::field::spelled` meets its contract.
use Rattle.std.proofs.Common.{◌^◌, ◌<◌, ◌≡◌, drop}
use Rattle.text.specs.Fields.{all, digit, value as value·of}
use Rattle.text.proofs.field.spelled.Given as goal

abbrev pub invariant-loop-b : goal.invariant-loop-b
invariant-loop-b l = (all digit l.part ≡ all digit (drop l.b-index l.part)) ×
    (value·of 0 l.part ≡ value·of l.value (drop l.b-index l.part)) × (l.value < 10 ^ l.b-index)
