-- Names and digit strings (document 01, "A job and its listing"): their printers and their readers, over lists of bytes.
use Rattle.std.specs.Prelude.{ℕ, zero, suc, ◌+◌, ◌-◌, ◌*◌, ◌/◌, ◌%◌, ◌≡◌, Bool, true, false, cond, Option, Some, None, not, ◌&&◌, ◌||◌, List, [], ◌∷◌, ◌++◌, leb, ltb, eqb, length, get_or, take, drop}
use Rattle.text.specs.Limits.{name_length, most_digits}
use Rattle.text.specs.Ascii.{byte}
use Rattle.text.specs.declared.field.Place.{Place}

-- the bytes of the list all pass the test
unfoldable pub all : (ℕ → Bool) → List ℕ → Bool
all p [] = true
all p (x ∷ xs) = p x && all p xs

abbrev pub within : ℕ → ℕ → ℕ → Bool
within low high b = leb low b && leb b high

unfoldable pub digit : ℕ → Bool
digit b = within (byte "0") (byte "9") b

unfoldable pub letter : ℕ → Bool
letter b = within (byte "A") (byte "Z") b || within (byte "a") (byte "z") b

unfoldable pub letter_or_digit : ℕ → Bool
unfolding letter digit
letter_or_digit b = letter b || digit b

-- "Names are 1 to 12 letters or digits of ASCII."
unfoldable pub name : List ℕ → Bool
name l = ltb 0 (length l) && leb (length l) name_length && all letter_or_digit l

-- "Numbers are 1 to 10 digits, with no leading zero except 0 itself"
unfoldable pub digit_string : List ℕ → Bool
digit_string l =
    ltb 0 (length l) && leb (length l) most_digits && all digit l && (eqb (length l) 1 || not (eqb (get_or l 0 0) (byte "0")))

-- digits alone, as many as a digit string may have
unfoldable pub few_digits : List ℕ → Bool
few_digits l = leb (length l) most_digits && all digit l

-- the number that digits spell after those of n
unfoldable pub value : ℕ → List ℕ → ℕ
value n [] = n
value n (x ∷ xs) = value (n * 10 + (x - byte "0")) xs

-- n in at most fuel + 1 digits
unfoldable pub decimal_by : ℕ → ℕ → List ℕ
decimal_by zero n = (byte "0" + n) ∷ []
decimal_by (suc fuel) n =
    let before = decimal_by fuel (n / 10) in
    cond (ltb n 10) ((byte "0" + n) ∷ []) (before ++ ((byte "0" + n % 10) ∷ []))

-- "printed numbers are decimal without leading zeros": `decimal_one` and `decimal_more` say which digits these are
unfoldable pub decimal : ℕ → List ℕ
decimal n = decimal_by n n

-- the bytes of a line at a place; none where the line is too short
unfoldable pub part_of : List ℕ → Place → List ℕ
part_of line p = cond (leb p.to (length line)) (take (p.to - p.from) (drop p.from line)) []

-- the number that the digits spell, just where the test holds
abbrev pub Spells : Bool → List ℕ → Option ℕ → Type 0
Spells test digits r = r ≡ cond test (Some (value 0 digits)) None

-- what three fields spell, each just where it is a digit string
abbrev pub SpellThree : List ℕ → List ℕ → List ℕ → Option ℕ × Option ℕ × Option ℕ → Type 0
SpellThree x y z r = Spells (digit_string x) x r.0 × Spells (digit_string y) y r.1 × Spells (digit_string z) z r.2

-- two names are the same bytes
unfoldable pub same : List ℕ → List ℕ → Bool
same [] [] = true
same [] (y ∷ b) = false
same (x ∷ a) [] = false
same (x ∷ a) (y ∷ b) = eqb x y && same a b
