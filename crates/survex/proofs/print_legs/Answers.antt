-- `survex::print_legs` meets its contract.
use Rattle.std.proofs.Common.{arith, ◌≡◌, sym, ap, subst, ◌∙◌, List, ℕ, length}
use Rattle.text.proofs.Writing.{puts_within}
use Rattle.text.specs.Buffer.{Puts}
use Rattle.listing_rows.specs.Rows.{refused_row}
use Rattle.job.specs.Job.{output_of}
use Rattle.job.proofs.Answered.{printed_listed, printed_refused}
use Rattle.survex.specs.Survex.{survex_of}
use Rattle.survex.specs.declared.LegsAnswer.{LegsAnswer}
use Rattle.survex.proofs.Answers.{survex_told}
use Rattle.survex.proofs.print_legs.Goals as goal

pub returns-then-answer-eq0 : goal.returns-then-answer-eq0
returns-then-answer-eq0 c =
    let start = c.args in
    let out = start.out.now in
    let o = survex_of start.text.now in
    let legs = c.legs-answer in
    let accepted = sym (ap (λ (r : LegsAnswer). r.code) legs.ensures.answer) ∙ c.if-answer-eq0.true in
    let listed : Puts out 0 (output_of o (length out)) legs.result.length legs.new.out =
    rw (legs.ensures.answer, legs.ensures.buffer) (printed_listed o out (survex_told start.text.now) accepted) in
    record { puts = listed; upper_bound = puts_within out 0 (output_of o (length out)) (omega arith) listed }

-- bytes that are the output's
put_as : {n : ℕ} {new row output : List ℕ} (out : List ℕ) → row ≡ output → Puts out 0 row n new → Puts out 0 output n new
put_as {n} {new} out e p = subst (λ (bytes : List ℕ). Puts out 0 bytes n new) e p

pub returns : goal.returns
returns c =
    let start = c.args in
    let out = start.out.now in
    let o = survex_of start.text.now in
    let legs = c.legs-answer in
    let (same, row) = printed_refused o out (λ z. c.if-answer-eq0.false (ap (λ (r : LegsAnswer). r.code) legs.ensures.answer ∙ z)) in
    let told : refused_row legs.result.code legs.result.line ≡ output_of o (length out) = rw legs.ensures.answer row in
    let puts = put_as out told (rw (legs.ensures.buffer ∙ same) at c.put_refused.ensures) in
    record { puts = puts; upper_bound = puts_within out 0 (output_of o (length out)) (omega arith) puts }
