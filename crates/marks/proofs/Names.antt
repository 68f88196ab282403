-- A label has one name and no other.
use mathlib.Core.Path.{◌≡◌, refl, sym, ◌∙◌}
use mathlib.Core.Bool.{Bool, true, false, ◌&&◌, and-eq-true_iff}
use mathlib.Core.List.{List, ◌++◌}
use Prim.Native.Nat.{ℕ, ◌+◌, ◌≤◌, ◌<◌}
use native.Mathlib.Omega.{arith}
use native.Mathlib.Nat.{min-eq_left, zero-add}
use lib.Dec.{leb}
use lib.ListN.{length, take, drop, replicate}
use lib.Seq.{sets, sets-eq, take-append_seam}
use borrow.Author.Tests.{le-leb, lt-leb, leb-true}
use Rattle.text.specs.Limits.{name_length}
use Rattle.text.specs.Buffer.{written}
use Rattle.marks.specs.declared.label.Label.{Label}
use Rattle.text.specs.Fields.{same}
use Rattle.text.proofs.SameBytes.{same_refl, same_bytes, same_is}
use Rattle.std.specs.Prelude.{Option, Some, None, MatchOption}
use Rattle.std.specs.Option.{option_eq}
use Rattle.std.specs.Str.{bytes_eq}
use denote.Ref.{Bor}
use Rattle.marks.specs.Marks.{has_name, label_of}
use Rattle.marks.specs.Refusals.{Has}

-- a test that is not passed
pub not_passed : (t : Bool) → (t ≡ true → ⊥) → t ≡ false
not_passed true h = absurd (h refl)
not_passed false h = refl

-- the name of a label, compared with another
pub own_same : (label : Label) (own : Option (Bor (List ℕ))) (bytes : Bor (List ℕ))
    → MatchOption own (name_length < label.length) (λ own. (label.length ≤ name_length) × (own.now ≡ take label.length label.bytes)) → {b : Bool}
    → b ≡ option_eq (λ (x y : Bor (List ℕ)). bytes_eq x.now y.now) own (Some bytes) → b ≡ (leb label.length name_length && same (take label.length label.bytes) bytes.now)
own_same label (Some own) bytes (short, is) e = rw (le-leb _ 12 short) (e ∙ rw is (same_is _ _))
own_same label None bytes long e = rw (lt-leb _ 12 long) e

-- what a place with a name says of itself, and what does so has the name
pub has : (bytes : List ℕ) (label : Label) → has_name bytes label ≡ true → Has bytes label
unfolding has_name
has bytes label e =
    let (used, rest) = (and-eq-true_iff label.used _).0 e in
    let (short, is) = (and-eq-true_iff (leb label.length name_length) _).0 rest in
    record { used = used; short = leb-true _ _ short; is = same_bytes _ _ is }

pub has_name_lem : (bytes : List ℕ) (label : Label) → Has bytes label → has_name bytes label ≡ true
unfolding has_name
has_name_lem bytes label h =
    rw (has_name, h.used, le-leb label.length name_length h.short, h.is) (same_refl bytes)

-- The label of a name has that name,
pub own_name : (bytes : List ℕ) → length bytes ≤ name_length → has_name bytes (label_of bytes) ≡ true
unfolding has_name label_of written
own_name bytes short =
    let all-of-it : sets (replicate name_length 0) 0 bytes ≡ bytes ++ drop (0 + length bytes) (replicate name_length 0)
    = sets-eq bytes (replicate name_length 0) 0 (omega (arith, short, zero-add (length bytes))) in
    rw (label_of, written, min-eq_left short, le-leb (length bytes) name_length short, all-of-it, take-append_seam bytes _)
    (same_refl bytes)

-- and a place that has a name has no other;
pub one_name : (x y : List ℕ) (label : Label) → (x ≡ y → ⊥) → has_name y label ≡ true → has_name x label ≡ false
one_name x y label other e =
    not_passed (has_name x label) (λ h. other (sym (has x label h).is ∙ (has y label e).is))

-- a free place has none.
pub free_name : (x : List ℕ) (label : Label) → label.used ≡ false → has_name x label ≡ false
unfolding has_name
free_name x label e = rw (has_name, e)
