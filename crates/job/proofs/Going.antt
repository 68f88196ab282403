-- A job half way: what the lines so far have left in the state and in the buffer, and what the lines ahead add to it.
use Prim.Native.Nat.{ℕ, ◌+◌, ◌-◌, ◌≤◌}
use native.Mathlib.Omega.{arith}
use mathlib.Core.Path.{◌≡◌, refl, sym, ap, ap₂, ◌∙◌}
use mathlib.Core.Bool.{Bool, true, false, cond}
use mathlib.Core.List.{List, [], ◌∷◌, ◌++◌, append_assoc}
use lib.Dec.{ltb}
use lib.ListN.{length, take, replicate, length-append}
use borrow.Author.Tests.{eq-eqb, ne_eqb, le-ltb}
use Rattle.std.specs.Prelude.{Ok, Err}
use Rattle.text.specs.Buffer.{written, Puts}
use Rattle.text.proofs.Writing.{written_length, written_on, room_holds}
use Rattle.job_lines.specs.Forms.{read_line}
use Rattle.listing_rows.specs.Rows.{header, end_row, row_room}
use Rattle.text.specs.declared.written.Written.{Written}
use Rattle.job_reader.specs.Refusals.{refusal, Verdict, number_of, verdict_in, first_bad}
use Rattle.job_reader.specs.Setting.{start, begun, Refuses}
use Rattle.job_reader.specs.declared.refusals.BadLine.{BadLine}
use Rattle.job_reader.proofs.Refused.{number_positive}
use Rattle.job_reader.proofs.FirstBad.{refused_lem}
use Rattle.job.specs.Job.{Outcome, refused, listed, onto, outcome, setting_after, printed}
use Rattle.job.specs.Private.{accepted_state, accepted_buffer, Ready, Adds, listing_from, Going, Wrote}
use Rattle.job_reader.specs.declared.walk.Setting.{Setting}
use Rattle.job.specs.declared.state.State.{State}
use Rattle.job.proofs.Bounds.{end_short, steps}
use Rattle.listing_rows.proofs.Rows.{header_length}

pub onto_onto : (a b : List ℕ) (o : Outcome) → onto a (onto b o) ≡ onto (a ++ b) o
onto_onto a b (refused n k) = refl
onto_onto a b (listed l) = ap listed (sym (append_assoc a b l))

-- one line of the definition, accepted or refused
module _ (k : ℕ) (s : Setting) (l : List ℕ) (ls : List (List ℕ)) where
  pub outcome_yes : refusal k (read_line l) ≡ 0 → outcome k s (l ∷ ls) ≡ onto (printed (read_line l) s)
      (outcome (k + 1) (setting_after (read_line l) s) ls)
  unfolding outcome
  outcome_yes h = rw (eq-eqb (refusal k (read_line l)) 0 h, outcome)

  pub outcome_no : (refusal k (read_line l) ≡ 0 → ⊥) → outcome k s (l ∷ ls) ≡ refused (refusal k (read_line l)) k
  unfolding outcome
  outcome_no h = rw (ne_eqb (refusal k (read_line l)) 0 h, outcome)

module _ (all left : List (List ℕ)) (out₀ out : List ℕ) (s : State) (g : Going all left out₀ out s) where
  pub ready : Ready s
  ready = record { steady = g.steady; short = omega (arith, g.used, g.short, g.line) }

  -- a row more
  pub row_on : (row before : List ℕ) → out₀ ≡ written before 0 header → written out s.used row ≡ written before 0 (g.bytes ++ row)
  row_on row before h =
      ap₂ (λ (d : List ℕ) (n : ℕ). written d n row) (g.wrote before h) g.used ∙ written_on before g.bytes row

  -- one line more, or the one that is bad
  module _ (after : List (List ℕ)) (l : List ℕ) (e : left ≡ l ∷ after) where
    abbrev row : List ℕ
    row = printed (read_line l) s.read.setting

    pub line_on : (t : State) (new : List ℕ) → refusal s.read.line (read_line l) ≡ 0
        → t ≡ accepted_state s.read.line s.used s.read.setting (read_line l) → new ≡ accepted_buffer s.used s.read.setting (read_line l) out
        → Going all after out₀ new t
    unfolding accepted_state accepted_buffer
    line_on t new ok et en =
        let b = steps s.read.line l s.read.setting g.steady ok in
        let n = length-append g.bytes row in
        rw (et, en)
        (record {
          line = omega (arith, b.line);
          steady = b.steady;
          size = written_length out s.used row ∙ g.size;
          bytes = g.bytes ++ row;
          used = omega (arith, g.used, n);
          short = omega (arith, b.row, g.short, n);
          wrote = row_on row;
          so_far = g.so_far ∙ rw (e, outcome_yes s.read.line s.read.setting l after ok, onto_onto);
        })

    pub line_off : (bad : BadLine) → Refuses s.read.line (read_line l) bad → listing_from all ≡ refused (number_of bad.cause) bad.line
    line_off bad off =
        g.so_far ∙ rw (e, outcome_no s.read.line s.read.setting l after (refused_lem s.read.line (read_line l) bad off)) (ap₂ refused off.cause (sym off.line))

-- the start: the header is in the buffer
pub going_start : (all : List (List ℕ)) (out : List ℕ) (s : State) → s ≡ record { read = begun; used = length header } → Going all all out out s
unfolding start begun
going_start all out s f =
    rw f
    (record {
      line = omega arith;
      steady = record { sigma_distance = omega arith; sigma_bearing = omega arith };
      size = refl;
      bytes = header;
      used = refl;
      short = omega (arith, header_length);
      wrote = λ before h. h;
      so_far = refl;
    })

-- no line is left
module _ (all : List (List ℕ)) (before out₀ out : List ℕ) (s : State) (h : out₀ ≡ written before 0 header) (g : Going all [] out₀ out s) where
  ended : listing_from all ≡ onto g.bytes (cond (ltb s.read.line 3) (refused 8 s.read.line) (listed (end_row (s.read.line - 3))))
  unfolding outcome
  ended = g.so_far

  -- the lines lack one
  pub missing : (bad : BadLine) → verdict_in {A = State} (Err bad) ≡ first_bad s.read.line [] → listing_from all ≡ refused (number_of bad.cause) bad.line
  unfolding first_bad
  missing bad v = go (ltb s.read.line 3) refl
    where
      go : (q : Bool) → ltb s.read.line 3 ≡ q → listing_from all ≡ refused (number_of bad.cause) bad.line
      go true e = let w : ◌≡◌ {A = Verdict} (record { code = number_of bad.cause; line = bad.line }) (record { code = 8; line = s.read.line }) = rw e at v in
          ended ∙ rw e (ap₂ refused (sym (ap (λ (u : Verdict). u.code) w)) (sym (ap (λ (u : Verdict). u.line) w)))
      go false e = let w : ◌≡◌ {A = Verdict} (record { code = number_of bad.cause; line = bad.line }) (record { code = 0; line = 0 }) = rw e at v in
          absurd (number_positive bad.cause (ap (λ (u : Verdict). u.code) w))

  -- the last row holds the count of shots
  module _ (n : ℕ) (count : n + 3 ≡ s.read.line) where
    complete : listing_from all ≡ listed (g.bytes ++ end_row n)
    complete =
        let e : s.read.line - 3 ≡ n = omega (arith, count) in
        ended ∙ rw (le-ltb s.read.line 3 (omega (arith, count)), e)

    pub wrote_listed : (out' : List ℕ) (m : ℕ) → m ≡ s.used + length (end_row n) → out' ≡ written out s.used (end_row n)
        → Wrote (listing_from all) (Ok m) before out'
    wrote_listed out' m e f =
        (g.bytes ++ end_row n, complete, omega (arith, e, g.used, length-append g.bytes (end_row n)), f ∙ row_on all [] out₀ out s g (end_row n) before h)

    short : length (end_row n) ≤ row_room
    short =
        let e : s.read.line - 3 ≡ n = omega (arith, count) in
        let h = rw e at (end_short s.read.line g.line) in
        omega (arith, h)

    pub end_holds : (row : Written row_room) → Puts (replicate row_room 0) 0 (end_row n) row.length row.bytes
        → (row.length ≡ length (end_row n)) × (take row.length row.bytes ≡ end_row n)
    end_holds r p = room_holds row_room (end_row n) p short

    pub end_adds : (row : Written row_room) → Puts (replicate row_room 0) 0 (end_row n) row.length row.bytes → row.length ≤ length row.bytes → Adds s.used row
    end_adds r p w = record {
      short = (ready all [] out₀ out s g).short;
      whole = w;
      room = omega (arith, (end_holds r p).0, short);
    }
