-- Why a job is not listed, in the documents' numbers.
use Rattle.std.specs.Prelude.{ℕ}
use Rattle.job_reader.specs.Refusals as reader
use Rattle.job.specs.declared.refusal.Refusal.{Refusal}
use Rattle.job.specs.declared.refusal.Refusal.TheVariants.{Job, ListingTooLong}

-- as the job's reader has it; "listing longer than the buffer lent"
abbrev pub code_of : Refusal → ℕ
code_of (Job why) = reader.code_of why
code_of ListingTooLong = 10

-- the line at fault, 0 where none is
abbrev pub line_of : Refusal → ℕ
line_of (Job why) = reader.line_of why
line_of ListingTooLong = 0
