-- `print_misses` writes what the kind of the listing asks for.
use Rattle.std.proofs.Common.{arith, sym, ◌∙◌}
use Rattle.text.specs.Buffer.{Puts}
use Rattle.text.proofs.Writing.{puts_within}
use Rattle.misclosure.specs.Output.{output_of}
use Rattle.misclosure.proofs.Printed.{output_between, output_single}
use Rattle.misclosure.proofs.printer.print_misses.Goals as goal

pub returns-then-is_between : goal.returns-then-is_between
returns-then-is_between c =
    let a = c.args in
    let puts : Puts a.out.now 0 (output_of a.text.now) c.print_intervals.result c.print_intervals.new.out =
    rw (output_between a.text.now (sym c.is_between.ensures ∙ c.if-is_between.true)) c.print_intervals.ensures in
    record { puts = puts; upper_bound = puts_within a.out.now 0 (output_of a.text.now) (omega arith) puts }

pub returns : goal.returns
returns c =
    let a = c.args in
    let puts : Puts a.out.now 0 (output_of a.text.now) c.print_miss.result c.print_miss.new.out =
    rw (output_single a.text.now (sym c.is_between.ensures ∙ c.if-is_between.false)) c.print_miss.ensures in
    record { puts = puts; upper_bound = puts_within a.out.now 0 (output_of a.text.now) (omega arith) puts }
