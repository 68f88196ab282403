-- `tables::ln_two` meets its contract: the constant's entries are the definition's.
use mathlib.Core.Path.{sym}
use Rattle.tables.specs.Values.{ln_two_value}
use Rattle.tables.specs.Tables.{ln_two_is}
use Rattle.tables.proofs.ln_two.Statement.{statement}
use Rattle.tables.proofs.ln_two.Tie as tie

returns : tie.Need-returns
unfolding ln_two_value
returns c = sym ln_two_is

pub ln_two_spec : {M : Type 1} → statement M
ln_two_spec = tie.close (tie.spec returns)
