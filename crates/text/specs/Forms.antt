-- Forms: bytes that a line has as they stand, and # for each of its fields. The printer and the reader of a form.
use Rattle.std.specs.Prelude.{ℕ, suc, ◌+◌, Bool, true, false, cond, ◌&&◌, List, [], ◌∷◌, ◌++◌, map, leb, ltb, eqb, length, get_or, take, drop, set, replicate, Result, Ok, Err}
use Rattle.std.proofs.Math.Option.{Option, some, none}
use Rattle.text.specs.Ascii.{byte}
use Rattle.text.specs.Scan.{field}
use Rattle.text.specs.Fields.{digit_string, value, part_of}
use Rattle.text.specs.declared.field.Place.{Place}
use Rattle.text.specs.declared.form.Found.{Found}

-- whether a byte of a form stands for a field
abbrev pub mark : ℕ → Bool
mark f = eqb f (byte "#")

-- the number of a form's fields
unfoldable pub marks : List ℕ → ℕ
marks [] = 0
marks (f ∷ form) = cond (mark f) (suc (marks form)) (marks form)

-- The printer: the form with its fields in the places marked #
unfoldable pub print_form : List ℕ → List (List ℕ) → List ℕ
print_form [] fields = []
print_form (f ∷ form) fields =
    let filled = get_or fields 0 [] ++ print_form form (drop 1 fields) in
    let copied = f ∷ print_form form fields in
    cond (mark f) filled copied

unfoldable pub starts_with : ℕ → List ℕ → Bool
starts_with f [] = false
starts_with f (x ∷ xs) = eqb x f

unfoldable pub is_empty : List ℕ → Bool
is_empty [] = true
is_empty (x ∷ xs) = false

abbrev pub lead : List ℕ → Option (List (List ℕ)) → Option (List (List ℕ))
lead v none = none
lead v (some vs) = some (v ∷ vs)

-- The reader: the fields of a line of that form, if it is one
unfoldable pub read_form : List ℕ → List ℕ → Option (List (List ℕ))
read_form [] line = cond (is_empty line) (some []) none
read_form (f ∷ form) line =
    let afterField = read_form form (drop (length (field line)) line) in
    let afterByte = read_form form (drop 1 line) in
    cond (mark f) (lead (field line) afterField) (cond (starts_with f line) afterByte none)

-- what the fields of a line say, where it has the form; else what another form says
abbrev pub or_else : {A : Type 0} → Option (List (List ℕ)) → (List (List ℕ) → A) → A → A
or_else (some fields) f other = f fields
or_else none f other = other

-- the field at a place, and the number that it spells
abbrev pub field_at : List (List ℕ) → ℕ → List ℕ
field_at fields i = get_or fields i []

abbrev pub value_at : List (List ℕ) → ℕ → ℕ
value_at fields i = value 0 (field_at fields i)

abbrev pub digit_string_at : List (List ℕ) → ℕ → Bool
digit_string_at fields i = digit_string (field_at fields i)

-- three numbers from a place on
abbrev pub three_at : List (List ℕ) → ℕ → Bool
three_at fields i = digit_string_at fields i && digit_string_at fields (i + 1) && digit_string_at fields (i + 2)

-- the reader of forms with few enough fields
unfoldable pub read_few : ℕ → List ℕ → List ℕ → Option (List (List ℕ))
read_few n form line = cond (leb (marks form) n) (read_form form line) none

-- the fields at places of a line
abbrev pub fields_at : List ℕ → List Place → List (List ℕ)
fields_at line places = map (part_of line) places

-- the fields that were found: as many places as the form has, or none
unfoldable pub found_in : {n : ℕ} → List ℕ → List ℕ → Result (Found n) (Found n) → Option (List (List ℕ))
found_in form line (Ok c) = some (fields_at line (take (marks form) c.places))
found_in form line (Err c) = none

-- ---- Where the fields stand

-- One byte of a form: # takes the next field, any other byte is the line's next
unfoldable pub form_step : {n : ℕ} → ℕ → List ℕ → Found n → Result (Found n) (Found n)
form_step {n} f line c =
    let end = c.at + length (field (drop c.at line)) in
    let next : Found n = record { at = c.at + 1; count = c.count; places = c.places } in
    cond (mark f)
    (cond (leb n c.count) (Err c) (Ok (record { at = end; count = c.count + 1; places = set c.places c.count (record { from = c.at; to = end }) })))
    (cond (leb (length line) c.at) (Err c) (cond (eqb (get_or line c.at 0) f) (Ok next) (Err next)))

-- what follows a step that fits
abbrev pub then : {n : ℕ} → Result (Found n) (Found n) → (Found n → Result (Found n) (Found n)) → Result (Found n) (Found n)
then (Ok c) f = f c
then (Err c) f = Err c

-- a form from some byte on, up to the first that does not fit; at its end the line must be at its end
unfoldable pub found_from : {n : ℕ} → List ℕ → List ℕ → Found n → Result (Found n) (Found n)
found_from [] line c = cond (ltb c.at (length line)) (Err c) (Ok c)
found_from (f ∷ form) line c = then (form_step f line c) (λ next. found_from form line next)

-- a place where no field was found
abbrev pub no_place : Place
no_place = record { from = 0; to = 0 }

-- how far a form fits a line: all that was found
unfoldable pub found_of : (n : ℕ) → List ℕ → List ℕ → Result (Found n) (Found n)
found_of n form line = found_from form line (record { at = 0; count = 0; places = replicate n no_place })

-- the places of a form's fields in a line, from a place on: each from where the bytes before its # end
unfoldable pub places_from : ℕ → List ℕ → List ℕ → List Place
places_from at [] line = []
places_from at (f ∷ form) line =
    let end = at + length (field (drop at line)) in
    cond (mark f) (record { from = at; to = end } ∷ places_from end form line) (places_from (at + 1) form line)
