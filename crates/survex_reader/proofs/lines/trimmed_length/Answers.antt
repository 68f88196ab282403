-- `survex_reader::lines::trimmed_length` meets its contract.
use Rattle.std.proofs.Common.{rules, sym, ap, length}
use borrow.Author.Tests.{tests}
use Rattle.survex_reader.proofs.Trim.{trim_all, trimmed_at}
use Rattle.survex_reader.proofs.lines.trimmed_length.Goals as goal

pub returns-in-Some : goal.returns-in-Some
returns-in-Some c = sym (trimmed_at c.args.part.now c.in-Some.last (search (rules, tests)) (search (rules, tests)) (search (rules, tests)))

pub returns-in-None : goal.returns-in-None
returns-in-None c = sym (ap length (trim_all c.args.part.now (search (rules, tests))))
