-- The answer and the buffer of a text.
use Prim.Native.Nat.{ℕ, ◌+◌, ◌≤◌, ◌<◌}
use native.Mathlib.Omega.{arith}
use native.Mathlib.Nat.{zero-add}
use native.Mathlib.Decide.{dec_lt}
use mathlib.Core.Path.{◌≡◌, refl, sym, ap, ◌∙◌}
use mathlib.Core.Bool.{Bool, true, false, cond}
use mathlib.Core.List.{List, [], ◌∷◌}
use lib.ListN.{length}
use borrow.Author.Tests.{le-leb, lt-leb}
use Rattle.text.specs.Scan.{lines}
use Rattle.text.proofs.Writing.{written_fits}
use Rattle.job_lines.specs.Forms.{shot, print_line}
use Rattle.job.specs.Job.{Outcome, refused, listed, answer_of, buffer_after}
use Rattle.job.proofs.Answered.{Told, onto_told, answer_within, printed_refused}
use Rattle.survex_reader.specs.Lines.{left_of, fed, remains}
use Rattle.survex_reader.specs.Legs.{Said, leg, wrong, words, read_leg, code_of}
use Rattle.survex_reader.proofs.Facts.{wrong_facts}
use Rattle.survex.specs.Survex.{is_data, leg_line, on_leg, legs_from, survex_from, survex_of, legs_answer, answer_in}
use Rattle.survex.specs.Private.{Converts}
use Rattle.std.specs.Prelude.{Err}
use Rattle.survex_reader.specs.declared.leg.LegRefusal.{LegRefusal}
use Rattle.survex_reader.specs.declared.leg.LegRefusal.TheVariants.{Form, Range}
use Rattle.survex.specs.declared.refusal.Refusal.{Refusal}
use Rattle.survex.specs.declared.refusal.Refusal.TheVariants.{Line, TooLong}
use Rattle.survex.specs.declared.LegsAnswer.{LegsAnswer}

-- a refusal has a code
leg_told : (k : ℕ) (l : List ℕ) (rest : Outcome) → Told rest → Told (on_leg k (leg_line l) rest)
unfolding leg_line
leg_told k l rest h = go (fed l)
  where
    said : (x : Said) → read_leg (words (left_of l)) ≡ x → Told (on_leg k x rest)
    said (leg f t d b) e = onto_told (print_line (shot f t d b)) rest h
    said (wrong n) e = omega (arith, wrong_facts (words (left_of l)) n e)

    go : (x : Bool) → Told (on_leg k (cond x (read_leg (words (left_of l))) (wrong 21)) rest)
    go true = said (read_leg (words (left_of l))) refl
    go false = omega arith

legs_told : (k : ℕ) (ls : List (List ℕ)) → Told (legs_from k ls)
unfolding legs_from
legs_told k [] = tt
legs_told k (l ∷ ls) = go (remains l) (legs_told (k + 1) ls)
  where
    go : (x : Bool) → Told (legs_from (k + 1) ls) → Told (cond x (on_leg k (leg_line l) (legs_from (k + 1) ls)) (legs_from (k + 1) ls))
    go true h = leg_told k l (legs_from (k + 1) ls) h
    go false h = h

from_told : (k : ℕ) (ls : List (List ℕ)) → Told (survex_from k ls)
unfolding survex_from
from_told k [] = omega arith
from_told k (l ∷ ls) = go (remains l) (is_data l) (from_told (k + 1) ls)
  where
    go : (x y : Bool) → Told (survex_from (k + 1) ls) → Told (cond x (cond y (legs_from (k + 1) ls) (refused 21 k)) (survex_from (k + 1) ls))
    go true true h = legs_told (k + 1) ls
    go true false h = omega arith
    go false y h = h

pub survex_told : (text : List ℕ) → Told (survex_of text)
unfolding survex_of
survex_told text = from_told 1 (lines text)

module _ (o : Outcome) (out : List ℕ) (r : LegsAnswer) (e : r ≡ legs_answer o (length out)) where
  abbrev code_is : r.code ≡ (answer_of o (length out)).code
  code_is = ap (λ (x : LegsAnswer). x.code) e

  pub length_within : r.length ≤ length out
  length_within = omega (arith, ap (λ (x : LegsAnswer). x.length) e, answer_within o (length out) (answer_of o (length out)) refl)

  pub buffer_kept : (r.code ≡ 0 → ⊥) → out ≡ buffer_after o out
  buffer_kept z = sym (printed_refused o out (λ t. z (code_is ∙ t))).0

-- accepted, the buffer has the shot lines and then what it held
pub buffer_is : (o : Outcome) (out out' : List ℕ) (r : LegsAnswer) → Told o → Converts o (length out) r out out' → r.code ≡ 0 → out' ≡ buffer_after o out
unfolding buffer_after answer_of
buffer_is (refused n k) out out' r told c z = absurd (omega (arith, told, ap (λ (x : LegsAnswer). x.code) c.answer, z))
buffer_is (listed bytes) out out' r told c z = split (dec_lt (length out) (length bytes))
  where
    split : Dec (length out < length bytes) → out' ≡ buffer_after (listed bytes) out
    split (yes h) =
        let q : r ≡ record { code = 10; line = 0; length = 0 } = c.answer ∙ rw (lt-leb (length bytes) (length out) h) in
        absurd (omega (arith, z, ap (λ (x : LegsAnswer). x.code) q))
    split (no h) =
        let f : length bytes ≤ length out = omega (arith, h) in
        rw (le-leb (length bytes) (length out) f) (c.wrote bytes refl f ∙ written_fits out 0 bytes (omega (arith, f)) ∙ rw (zero-add (length bytes)))

-- no refusal has the number 0
pub refusal_positive : (refusal : Refusal) → (answer_in (Err refusal)).code ≡ 0 → ⊥
refusal_positive (Line bad) e = cause_positive bad.cause e
  where
    cause_positive : (cause : LegRefusal) → code_of cause ≡ 0 → ⊥
    cause_positive Form e = omega (arith, e)
    cause_positive Range e = omega (arith, e)
refusal_positive TooLong e = omega (arith, e)
