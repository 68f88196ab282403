-- A leg's shot line is short.
use Prim.Native.Nat.{ℕ, ◌+◌, ◌≤◌}
use native.Mathlib.Omega.{arith}
use mathlib.Core.Path.{◌≡◌}
use mathlib.Core.List.{List}
use lib.ListN.{length}
use Rattle.text.specs.Fields.{part_of}
use Rattle.text.proofs.Decimal.{decimal_length}
use Rattle.text.proofs.Plain.{name_length_lem}
use Rattle.job_lines.specs.Forms.{shot, print_line}
use Rattle.job_lines.specs.declared.Shot.{Shot as ShotFields}
use Rattle.survex_reader.specs.Legs.{leg, read_leg}
use Rattle.survex_reader.proofs.Facts.{LegFacts, leg_facts}
use Rattle.job_lines.proofs.ShotLines.{Short, shot_length}

pub leg_length : (f t : List ℕ) (d b : ℕ) → LegFacts f t d b → length (print_line (shot f t d b)) ≤ length f + length t + 23
leg_length f t d b h = omega (
  arith,
  shot_length f t d b,
  decimal_length 6 d (omega (arith, h.distance)),
  decimal_length 4 b (omega (arith, h.bearing)),
)

pub leg_short : (line : List ℕ) (v : List (List ℕ)) (s : ShotFields) → read_leg v ≡ leg (part_of line s.from) (part_of line s.to) s.distance s.bearing
    → Short line s
leg_short line v s e =
    let h = leg_facts v (part_of line s.from) (part_of line s.to) s.distance s.bearing e in
    record {
      from = name_length_lem (part_of line s.from) h.from;
      to = name_length_lem (part_of line s.to) h.to;
      distance = omega (arith, h.distance);
      bearing = omega (arith, h.bearing);
    }
