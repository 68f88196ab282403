-- The refusals of calls on a record, each by the number that the documents give it.
use Rattle.std.specs.Prelude.{ℕ, Result, Ok, Err}
use Rattle.streams.specs.declared.Refusal.{Refusal}
use Rattle.streams.specs.declared.Refusal.TheVariants.{OddLength, FirstStream, SecondStream, CountFull, Open, NoneOpen, WrongRequest}

abbrev pub number : Refusal → ℕ
number OddLength = 4
number FirstStream = 11
number SecondStream = 12
number CountFull = 13
number Open = 14
number NoneOpen = 15
number WrongRequest = 16

-- The refusal code of a test or a call: 0 where it is passed or accepted.
abbrev pub code_of_result : {A : Type 0} → Result A Refusal → ℕ
code_of_result (Ok _) = 0
code_of_result (Err refusal) = number refusal
