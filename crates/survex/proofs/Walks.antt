-- A text half way: what the lines so far gave, and what the lines ahead add to it.
use Prim.Native.Nat.{ℕ, ◌+◌, ◌-◌, ◌≤◌, ◌<◌}
use native.Mathlib.Omega.{arith}
use native.Mathlib.Nat.{add-zero}
use mathlib.Core.Path.{◌≡◌, refl, sym, ap, subst, ◌∙◌}
use mathlib.Core.Bool.{Bool, true, false, cond, false≢true}
use mathlib.Core.List.{List, [], ◌∷◌, ◌++◌, append-nil}
use mathlib.Core.Option.{some, none}
use lib.ListN.{length, take, drop, length-append}
use native.Mathlib.Decide.{dec_lt}
use borrow.Author.Tests.{le-leb, lt-leb}
use Rattle.text.specs.Scan.{lines}
use Rattle.text.specs.Buffer.{written}
use Rattle.std.specs.Prelude.{Option, Some, None, Result, Ok, Err}
use Rattle.std.specs.Option.{ok_or}
use Rattle.std.specs.Str.{bytes_eq}
use Rattle.text.specs.Forms.{marks, read_form}
use Rattle.text.proofs.SameBytes.{unmarked_read}
use Rattle.text.proofs.Writing.{written_on}
use Rattle.job_lines.specs.Forms.{shot, print_line}
use Rattle.job.specs.Job.{Outcome, refused, listed, onto, answer_of}
use Rattle.job.proofs.Going.{onto_onto}
use Rattle.survex_reader.specs.Lines.{left_of, fed, remains, remaining_from}
use Rattle.survex_reader.specs.declared.lines.Kept.{Kept}
use Rattle.survex_reader.specs.declared.lines.Remaining.{Remaining}
use Rattle.survex_reader.proofs.Onward.{HandedOut, none_found, some_found, passed_few}
use Rattle.survex_reader.specs.Legs.{Said, leg, wrong, words, read_leg, code_of}
use Rattle.survex.specs.Survex.{data_form, found, is_data, leg_line, on_leg, legs_from, survex_from, survex_of, legs_answer, answer_in}
use Rattle.survex.specs.Private.{measured_of, Takes, Starts, Converts}
use Rattle.survex.specs.declared.refusal.BadLine.{BadLine}
use Rattle.survex.specs.declared.refusal.Refusal.{Refusal}
use Rattle.survex.specs.declared.refusal.Refusal.TheVariants.{TooLong}
use Rattle.survex.proofs.Measures.{measured_fits, measured_over, measured_more}

-- a line is the data line just where it is the same bytes
pub data_same : (line other : List ℕ) → other ≡ data_form → bytes_eq line other ≡ found (read_form data_form line)
unfolding marks data_form
data_same line other e = rw (e, unmarked_read data_form line refl) (go (bytes_eq line data_form))
  where
    go : (b : Bool) → b ≡ found (cond b (some []) none)
    go true = refl
    go false = refl

-- lines that do not remain are passed over
pub legs_skip : (k : ℕ) (l : List ℕ) (ls : List (List ℕ)) → remains l ≡ false → legs_from k (l ∷ ls) ≡ legs_from (k + 1) ls
unfolding legs_from
legs_skip k l ls e = rw (e, legs_from)

pub survex_skip : (k : ℕ) (l : List ℕ) (ls : List (List ℕ)) → remains l ≡ false → survex_from k (l ∷ ls) ≡ survex_from (k + 1) ls
unfolding survex_from
survex_skip k l ls e = rw (e, survex_from)

-- the data line
module _ (text : List ℕ) (r : Remaining) (e : r ≡ remaining_from text 0) where
  pub data_passed : r.passed ≤ length text
  unfolding remaining_from
  data_passed = rw e (omega (arith, passed_few survex_from survex_skip text (lines (drop 0 text)) 0 0 refl (omega arith)))

  pub data_none : r.line ≡ None → survex_of text ≡ refused 21 (r.passed + 1)
  unfolding remaining_from survex_of survex_from
  data_none f =
      none_found survex_from survex_skip (lines (drop 0 text)) 0 0 (sym (ap (λ (x : Remaining). x.line) e) ∙ f) 1 ∙
      ap (λ (x : Remaining). refused 21 (1 + x.passed)) (sym e) ∙ ap (refused 21) {x = 1 + r.passed} {y = r.passed + 1} (omega arith)

  module _ (k : Kept) (f : r.line ≡ Some k) where
    handed : HandedOut survex_from text 0 0 k r
    unfolding remaining_from
    handed = rw e (some_found survex_from survex_skip text (lines (drop 0 text)) 0 0 refl k (sym (ap (λ (x : Remaining). x.line) e) ∙ f))

    pub data_order : k.from ≤ k.to
    data_order = handed.order

    pub data_within : k.to ≤ length text
    data_within = handed.within

    here : survex_of text ≡ cond (is_data handed.line) (legs_from (r.passed + 1 + 1) (lines (drop r.next text))) (refused 21 (r.passed + 1))
    unfolding survex_of survex_from
    here =
        let n : 1 + r.passed ≡ r.passed + 1 = omega arith in
        handed.onward 1 ∙ rw (n, handed.left, survex_from)

    pub data_unfed : k.fed ≡ false → survex_of text ≡ refused 21 (r.passed + 1)
    unfolding is_data
    data_unfed t = let q : fed handed.line ≡ false = sym handed.is_fed ∙ t in here ∙ rw q

    module _ (t : k.fed ≡ true) (b : Bool) (g : b ≡ found (read_form data_form (take (k.to - k.from) (drop k.from text)))) where
      is_data_lem : is_data handed.line ≡ b
      unfolding is_data
      is_data_lem =
          let q : fed handed.line ≡ true = sym handed.is_fed ∙ t in
          let p : left_of handed.line ≡ take (k.to - k.from) (drop k.from text) = sym handed.part in
          rw (q, p) (sym g)

      pub data_other : b ≡ false → survex_of text ≡ refused 21 (r.passed + 1)
      data_other u = here ∙ rw (is_data_lem, u)

      pub data_here : b ≡ true → (survex_of text ≡ legs_from (r.passed + 1 + 1) (lines (drop r.next text))) × Starts text r.next (r.passed + 1 + 1)
      data_here u = (here ∙ rw (is_data_lem, u), record { place = handed.next; few = omega (arith, handed.ahead) })

-- ---- The legs

ok_same : {a b : Option ℕ} → ◌≡◌ {A = Result (Option ℕ) BadLine} (Ok a) (Ok b) → a ≡ b
ok_same {a} e = ap value e
  where
    value : Result (Option ℕ) BadLine → Option ℕ
    value (Ok x) = x
    value (Err bad) = a

is_ok_lem : Result (Option ℕ) BadLine → Bool
is_ok_lem (Ok x) = true
is_ok_lem (Err bad) = false

err_not_ok : {bad : BadLine} {x : Option ℕ} → ◌≡◌ {A = Result (Option ℕ) BadLine} (Err bad) (Ok x) → ⊥
unfolding is_ok_lem
err_not_ok e = false≢true (ap is_ok_lem e)

onto_none : (o : Outcome) → o ≡ onto [] o
onto_none (refused n k) = refl
onto_none (listed b) = refl

abbrev bytes_of : Outcome → List ℕ
bytes_of (refused n k) = []
bytes_of (listed b) = b

-- the lines so far are accepted: their shot lines, what was measured of them, and the buffer
pub record Going (text : List ℕ) (o : Outcome) (room : ℕ) (out₀ out : List ℕ) (at line : ℕ) (m : Option ℕ) : Type 0 where
  pub bytes : List ℕ
  pub so_far : o ≡ onto bytes (legs_from line (lines (drop at text)))
  pub measured : m ≡ measured_of room (length bytes)
  pub wrote : length bytes ≤ room → out ≡ written out₀ 0 bytes
  pub place : at ≤ length text
  pub few : line ≤ at + 1
  pub size : length out ≡ length out₀

pub going_start : (text : List ℕ) (room : ℕ) (out : List ℕ) (at line : ℕ) → Starts text at line
    → Going text (legs_from line (lines (drop at text))) room out out at line (Some 0)
unfolding written
going_start text room out at line s =
    record {
      bytes = [];
      so_far = onto_none _;
      measured = sym (measured_fits room 0 (omega arith));
      wrote = λ h. refl;
      place = s.place;
      few = s.few;
      size = refl;
    }

-- a text that is refused writes nothing that counts
pub refused_converts : (o : Outcome) (room code line : ℕ) (out out' : List ℕ) → o ≡ refused code line
    → Converts o room (record { code = code; line = line; length = 0 }) out out'
unfolding answer_of
refused_converts o room code line out out' e =
    record {
      answer = rw e;
      wrote = λ b f h. absurd (apart (sym e ∙ f));
    }
  where
    is_listed : Outcome → Bool
    is_listed (refused n k) = false
    is_listed (listed b) = true

    apart : {b : List ℕ} → refused code line ≡ listed b → ⊥
    apart f = false≢true (ap is_listed f)

abbrev length_of : Option ℕ → Result ℕ Refusal
length_of m = ok_or m TooLong

listed_answer : (o : Outcome) (room : ℕ) (bytes : List ℕ) (m : Option ℕ) → o ≡ listed bytes → m ≡ measured_of room (length bytes)
    → answer_in (length_of m) ≡ legs_answer o room
unfolding answer_of
listed_answer o room bytes m e f = rw (e, f) (split (dec_lt room (length bytes)))
  where
    split : Dec (room < length bytes) → answer_in (length_of (measured_of room (length bytes))) ≡ legs_answer (listed bytes) room
    split (yes h) = rw (measured_over room (length bytes) h, lt-leb (length bytes) room h)
    split (no h) = rw (measured_fits room (length bytes) (omega (arith, h)), le-leb (length bytes) room (omega (arith, h)))

module _ (text : List ℕ) (o : Outcome) (room : ℕ) (out₀ out : List ℕ) (at line : ℕ) (m : Option ℕ) (g : Going text o room out₀ out at line m)
    (r : Remaining) (e : r ≡ remaining_from text at) where
  -- no line is left
  pub going_end : r.line ≡ None → Converts o room (answer_in (length_of m)) out₀ out
  unfolding remaining_from legs_from
  going_end f =
      let n = none_found legs_from legs_skip (lines (drop at text)) at 0 (sym (ap (λ (x : Remaining). x.line) e) ∙ f) line in
      let k : o ≡ listed g.bytes = g.so_far ∙ ap (λ (i : ℕ). onto g.bytes (legs_from i (lines (drop at text)))) (sym (add-zero line))
      ∙ ap (onto g.bytes) n ∙ ap listed (append-nil g.bytes) in
      record {
        answer = listed_answer o room g.bytes m k g.measured;
        wrote = λ b t h. let s : g.bytes ≡ b = ap bytes_of (sym k ∙ t) in subst (λ (x : List ℕ). out ≡ written out₀ 0 x) s (g.wrote (rw s h));
      }

  module _ (k : Kept) (f : r.line ≡ Some k) where
    leg_handed : HandedOut legs_from text at 0 k r
    unfolding remaining_from
    leg_handed = rw e (some_found legs_from legs_skip text (lines (drop at text)) at 0 refl k (sym (ap (λ (x : Remaining). x.line) e) ∙ f))

    pub leg_order : k.from ≤ k.to
    leg_order = leg_handed.order

    pub leg_within : k.to ≤ length text
    leg_within = leg_handed.within

    pub leg_next : (at < r.next) × (r.next ≤ length text) × (line + r.passed + 1 ≤ length text + 1)
    leg_next = (omega (arith, leg_handed.ahead), leg_handed.next, omega (arith, leg_handed.ahead, leg_handed.next, g.few))

    leg_here : o ≡ onto g.bytes (on_leg (line + r.passed) (leg_line leg_handed.line) (legs_from (line + r.passed + 1) (lines (drop r.next text))))
    unfolding legs_from
    leg_here = g.so_far ∙ ap (λ (i : ℕ). onto g.bytes (legs_from i (lines (drop at text)))) (sym (add-zero line))
        ∙ ap (onto g.bytes) (leg_handed.onward line) ∙ rw (leg_handed.left, legs_from)

    pub leg_unfed : k.fed ≡ false → (out' : List ℕ) → Converts o room (record { code = 21; line = line + r.passed; length = 0 }) out₀ out'
    unfolding leg_line
    leg_unfed t out' =
        let q : fed leg_handed.line ≡ false = sym leg_handed.is_fed ∙ t in
        refused_converts o room 21 (line + r.passed) out₀ out' (leg_here ∙ rw q)

    module _ (t : k.fed ≡ true) (s : Result (Option ℕ) BadLine) (out' : List ℕ)
        (tk : Takes (read_leg (words (take (k.to - k.from) (drop k.from text)))) (line + r.passed) room m s out out') where
      said_is : leg_line leg_handed.line ≡ read_leg (words (take (k.to - k.from) (drop k.from text)))
      unfolding leg_line
      said_is =
          let q : fed leg_handed.line ≡ true = sym leg_handed.is_fed ∙ t in
          let p : left_of leg_handed.line ≡ take (k.to - k.from) (drop k.from text) = sym leg_handed.part in
          rw (q, p)

      pub leg_wrong : (bad : BadLine) → s ≡ Err bad → Converts o room (record { code = code_of bad.cause; line = bad.line; length = 0 }) out₀ out'
      leg_wrong bad z = refused_converts o room (code_of bad.cause) bad.line out₀ out' (leg_here ∙ rw said_is (go (read_leg (words (take (k.to - k.from) (drop k.from text)))) (rw z at tk)))
        where
          go : (x : Said) → Takes x (line + r.passed) room m (Err bad) out out'
              → onto g.bytes (on_leg (line + r.passed) x (legs_from (line + r.passed + 1) (lines (drop r.next text)))) ≡ refused (code_of bad.cause) bad.line
          go (leg a b c d) w = absurd (err_not_ok w.0)
          go (wrong n) w = rw (w.0, w.1)

      pub leg_on : (next : Option ℕ) → s ≡ Ok next → length out' ≡ length out → Going text o room out₀ out' r.next (line + r.passed + 1) next
      leg_on next z l = go _ refl (rw z at tk)
        where
          go : (x : Said) → read_leg (words (take (k.to - k.from) (drop k.from text))) ≡ x → Takes x (line + r.passed) room m (Ok next) out out'
              → Going text o room out₀ out' r.next (line + r.passed + 1) next
          go (leg a b c d) q w =
              let p = print_line (shot a b c d) in
              record {
                bytes = g.bytes ++ p;
                so_far = leg_here ∙ rw (said_is, q) (onto_onto g.bytes p (legs_from (line + r.passed + 1) (lines (drop r.next text))));
                measured = ok_same w.0 ∙ rw g.measured (measured_more room (length g.bytes) (length p) ∙
                    ap (measured_of room) (sym (length-append g.bytes p)));
                wrote = λ h.
                    let n : length g.bytes ≤ room = omega (arith, h, length-append g.bytes p) in
                    let u : m ≡ Some (length g.bytes) = g.measured ∙ measured_fits room (length g.bytes) n in
                    w.1 ∙ rw (u, g.wrote n) (written_on out₀ g.bytes p);
                place = leg_handed.next;
                few = omega (arith, leg_handed.ahead, g.few);
                size = l ∙ g.size;
              }
          go (wrong n) q w = absurd w
