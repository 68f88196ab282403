-- `walk` meets its contract: line after line, up to one that is refused, the end, or the end of the text.
use Rattle.std.proofs.Common.{length}
use Rattle.text.specs.Scan.{lines}
use Rattle.listing_rows.specs.Entries.{two_readings}
use Rattle.misclosure.specs.Private.{Going}
use Rattle.misclosure.proofs.walk.walk.Given as goal

abbrev pub invariant-loop-line : goal.invariant-loop-line
invariant-loop-line l = Going (two_readings l.kind) (lines l.initial.rest.rest.now) (lines l.rest.rest.now) l.s.line l.s.station.now l.s.east l.s.north

abbrev pub decreases-loop-line : goal.decreases-loop-line
decreases-loop-line l = length (lines l.rest.rest.now)
