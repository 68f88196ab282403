-- What a call on marks is refused for (document 02, Job 11), in the document's words and with its numbers. None of this is read by the code or by
-- its definitions: `under_cause` compares the two.
use Rattle.std.specs.Prelude.{◌≡◌, true, List, [], ◌∷◌, ℕ, ◌≤◌, ◌<◌, length, get_or, take}
use Rattle.streams.specs.Recurrence.{Minima}
use Rattle.streams.specs.FirstCause.{Decides}
use Rattle.text.specs.Fields.{all, letter_or_digit}
use Rattle.marks.specs.declared.label.Label.{Label}
use Rattle.marks.specs.Marks.{no_label}
use Rattle.marks.specs.Runs.{State, MarkCall, code_in}
use Rattle.marks.specs.Runs.MarkCall.{a_save, a_return, a_drop}

-- The refusals of a call on marks, by their causes.
pub data Refusal : Type 0 where
  unfit_a unfit_b one_open malformed not_held no_place_lem : Refusal

unfoldable pub refusal_code : Refusal → ℕ
refusal_code unfit_a = 11
refusal_code unfit_b = 12
refusal_code one_open = 14
refusal_code malformed = 18
refusal_code not_held = 19
refusal_code no_place_lem = 20

-- "11 and 12 apply to the record passed in .. before 14"; 18, 19 and 20 "after 14, in this order".
unfoldable pub order : List Refusal
order = unfit_a ∷ unfit_b ∷ one_open ∷ malformed ∷ not_held ∷ no_place_lem ∷ []

-- "Names are 1 to 12 letters or digits of ASCII."
pub record WellFormed (x : List ℕ) : Type 0 where
  pub some : 1 ≤ length x
  pub few : length x ≤ 12
  pub letters : all letter_or_digit x ≡ true

-- A place is used and its name is these bytes.
pub record Has (x : List ℕ) (label : Label) : Type 0 where
  pub used : label.used ≡ true
  pub short : label.length ≤ 12
  pub is : take label.length label.bytes ≡ x

-- One of the 16 places has the name.
pub record Held (labels : List Label) (x : List ℕ) : Type 0 where
  pub place : ℕ
  pub one_of : place < 16
  pub there : Has x (get_or labels place no_label)

-- "16 held and the name is new"
pub record Full (labels : List Label) (x : List ℕ) : Type 0 where
  pub all_used : (i : ℕ) → i < 16 → (get_or labels i no_label).used ≡ true
  pub new : Held labels x → ⊥

-- The three calls, each under a name.
pub data NameCall : Type 0 where
  save return drop : NameCall

abbrev pub as_call : NameCall → List ℕ → MarkCall
as_call save x = a_save x
as_call return x = a_return x
as_call drop x = a_drop x

-- "18: name malformed", of every call; 11, 12, 14, 19 and 20 by these causes of the call.
abbrev pub CauseOf : List ℕ → (unfit unfit' waits absent full : Type 0) → Refusal → Type 0
CauseOf x unfit unfit' waits absent full unfit_a = unfit
CauseOf x unfit unfit' waits absent full unfit_b = unfit'
CauseOf x unfit unfit' waits absent full one_open = waits
CauseOf x unfit unfit' waits absent full malformed = WellFormed x → ⊥
CauseOf x unfit unfit' waits absent full not_held = absent
CauseOf x unfit unfit' waits absent full no_place_lem = full

-- "Saving and returning wait until no request is open"; "19: name not held, on return or drop"; "20: 16 held and the name is new".
abbrev pub Applies : Refusal → NameCall → State → List ℕ → Type 0
Applies r save s x =
    CauseOf x (Minima s.generator.a → ⊥) (Minima s.generator.b → ⊥) (s.generator.waiting ≡ 0 → ⊥) ⊥ (Full s.marks.labels x) r
Applies r return s x =
    CauseOf x (Minima s.generator.a → ⊥) (Minima s.generator.b → ⊥) (s.generator.waiting ≡ 0 → ⊥) (Held s.marks.labels x → ⊥) ⊥ r
Applies r drop s x = CauseOf x ⊥ ⊥ ⊥ (Held s.marks.labels x → ⊥) ⊥ r

-- Of every call on marks, with any record and any set of 16 places: "under its cause and under no other"
abbrev pub OfRefusals : NameCall → State → List ℕ → Type 0
OfRefusals c s x = Decides refusal_code order (λ (r : Refusal). Applies r c s x) (code_in (as_call c x) s)
