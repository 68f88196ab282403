-- A call's tests, one after the other: the first that is not passed gives its refusal code.
use Rattle.std.proofs.Common.{Bool, true, false, cond, ap, ◌≡◌, refl, sym, ◌∙◌, ℕ, Result}
use Rattle.std.specs.Result.{IsErrAnd}
use Rattle.std.proofs.lemmas.Result.{err_from_is_err_and}
use Rattle.streams.specs.declared.Refusal.{Refusal}
use Rattle.streams.specs.declared.Refusal.TheVariants.{OddLength, FirstStream, SecondStream, CountFull, Open, NoneOpen, WrongRequest}
use Rattle.streams.specs.Refusals.{number, code_of_result}
use lib.Dec.{leb, eqb}
use borrow.Author.Tests.{eqb-false}
use Rattle.streams.specs.declared.Generator.{Generator}
use Rattle.streams.specs.Streams.{most_asked, record_code, asked_code, taken_code, Call, note_code, own_code, room_code, code_of}
use Rattle.streams.proofs.Causes.{lone_cause}

-- no refusal has the number 0
pub number_not_0 : (refusal : Refusal) → eqb (number refusal) 0 ≡ false
number_not_0 OddLength = refl
number_not_0 FirstStream = refl
number_not_0 SecondStream = refl
number_not_0 CountFull = refl
number_not_0 Open = refl
number_not_0 NoneOpen = refl
number_not_0 WrongRequest = refl

pub some_number : (refusal : Refusal) → number refusal ≡ 0 → ⊥
some_number refusal = eqb-false _ _ (number_not_0 refusal)

-- a number is that of one refusal
of_number : ℕ → Refusal
of_number n =
    cond (eqb n 4) OddLength
    (cond (eqb n 11) FirstStream
    (cond (eqb n 12) SecondStream
    (cond (eqb n 13) CountFull
    (cond (eqb n 14) Open
    (cond (eqb n 15) NoneOpen WrongRequest)))))

of_number_lem : (refusal : Refusal) → of_number (number refusal) ≡ refusal
unfolding of_number
of_number_lem OddLength = refl
of_number_lem FirstStream = refl
of_number_lem SecondStream = refl
of_number_lem CountFull = refl
of_number_lem Open = refl
of_number_lem NoneOpen = refl
of_number_lem WrongRequest = refl

pub one_number : (p q : Refusal) → number p ≡ number q → p ≡ q
one_number p q e = sym (of_number_lem p) ∙ ap of_number e ∙ of_number_lem q

-- the exit hands on the refusal of the test
pub stopped : {A : Type 0} (r : Result A Refusal) (refusal : Refusal) → IsErrAnd r (λ y. y ≡ refusal) → code_of_result r ≡ number refusal
stopped r refusal h =
    let (y, is, same) = err_from_is_err_and r h in
    rw (is, same)

-- a request for too many is the wrong one to take
pub asked_too_many : {A : Type 0} (r : Result A Refusal) (refusal : Refusal) (g : Generator) (n : ℕ) → IsErrAnd r (λ y. y ≡ refusal)
    → number refusal ≡ asked_code g.asked → code_of_result r ≡ taken_code g n
unfolding asked_code taken_code
asked_too_many r refusal g n h e = by_test (leb g.asked most_asked) refl
  where
    by_test : (t : Bool) → leb g.asked most_asked ≡ t → code_of_result r ≡ taken_code g n
    by_test true few = absurd (some_number refusal (e ∙ rw (asked_code, few)))
    by_test false many = rw (stopped r refusal h, e, asked_code, taken_code, many)

-- ---- The code of a call by the test that decides it; the tests before it are passed

module _ (c : Call) (g : Generator) {code : ℕ} where
  pub at_streams : code ≡ record_code g → eqb code 0 ≡ false → code ≡ code_of c g
  unfolding code_of
  at_streams e some = rw (← e, some)

  pub at_note : 0 ≡ record_code g → code ≡ note_code c g → eqb code 0 ≡ false → code ≡ code_of c g
  unfolding code_of
  at_note fits e some = rw (← fits, ← e, some)

  pub at_own : 0 ≡ record_code g → 0 ≡ note_code c g → code ≡ own_code c g → eqb code 0 ≡ false → code ≡ code_of c g
  unfolding code_of
  at_own fits note e some = rw (← fits, ← note, ← e, some)

  pub at_room : 0 ≡ record_code g → 0 ≡ note_code c g → 0 ≡ own_code c g → code ≡ room_code c g → code ≡ code_of c g
  unfolding code_of
  at_room fits note own e = rw (← fits, ← note, ← own) (e ∙ sym (lone_cause (room_code c g)))
