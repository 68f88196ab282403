-- A shot line that is written: its parts, its length, and the room that holds it.
use Prim.Native.Nat.{ℕ, ◌+◌, ◌^◌, ◌≤◌, ◌<◌}
use native.Mathlib.Omega.{arith}
use mathlib.Core.Path.{◌≡◌, refl}
use mathlib.Core.List.{List, [], ◌∷◌, ◌++◌, append_assoc}
use lib.ListN.{length, take, replicate, length-append}
use Rattle.text.specs.Limits.{name_length}
use Rattle.text.specs.Ascii.{ascii}
use Rattle.text.specs.Fields.{decimal, part_of}
use Rattle.text.specs.Forms.{print_form}
use Rattle.text.specs.Buffer.{Puts}
use Rattle.text.proofs.Decimal.{decimal_length}
use Rattle.text.proofs.Writing.{room_holds}
use Rattle.job_lines.specs.Forms.{shot, shot_form, shot_in, print_line}
use Rattle.job_lines.specs.declared.Shot.{Shot as ShotFields}
use Rattle.job_lines.specs.Room.{shot_room}
use Rattle.text.specs.declared.written.Written.{Written}

-- a shot whose line is no longer than the room
pub record Short (line : List ℕ) (s : ShotFields) : Type 0 where
  pub from : length (part_of line s.from) ≤ name_length
  pub to : length (part_of line s.to) ≤ name_length
  pub distance : s.distance < 10 ^ 7
  pub bearing : s.bearing < 10 ^ 5

-- as it is written
pub shot_parts : (f t : List ℕ) (d b : ℕ)
    → print_line (shot f t d b) ≡ ascii "(shot " ++ (f ++ (32 ∷ [])) ++ (t ++ (32 ∷ [])) ++ (decimal d ++ (32 ∷ [])) ++ (decimal b ++ (41 ∷ [])) ++ ascii "\n"
unfolding print_line print_form shot_form
shot_parts f t d b = simp append_assoc refl

pub shot_length : (f t : List ℕ) (d b : ℕ) → length (print_line (shot f t d b)) ≡ length f + length t + length (decimal d) + length (decimal b) + 11
shot_length f t d b = rw (shot_parts f t d b) (simp length-append (omega arith))

-- the room is enough for it
pub shot_bytes : (line : List ℕ) (s : ShotFields) (r : Written shot_room) → Short line s
    → Puts (replicate shot_room 0) 0 (print_line (shot_in line s)) r.length r.bytes
    → (r.length ≡ length (print_line (shot_in line s))) × (take r.length r.bytes ≡ print_line (shot_in line s))
shot_bytes line s r h p =
    room_holds shot_room (print_line (shot_in line s)) p
    (omega (
      arith,
      shot_length (part_of line s.from) (part_of line s.to) s.distance s.bearing,
      h.from,
      h.to,
      decimal_length 6 s.distance h.distance,
      decimal_length 4 s.bearing h.bearing,
    ))
