-- What the definitions of a Survex text say, as theorems: the record below has a proof in proofs/Theorems.antt.
use Rattle.std.specs.Prelude.{ℕ, ◌+◌, ◌≤◌, ◌<◌, ◌≡◌, Bool, true, false, cond, ◌||◌, List, [], ◌∷◌, ◌++◌, map, ◌↔◌, length, get_or, drop}
use Rattle.text.specs.Fields.{name}
use Rattle.text.specs.Scan.{lines}
use Rattle.job_lines.specs.Forms.{Form, seeds, sigma, shot, no_form, read_line}
use Rattle.job.specs.Limits.{listing_room}
use Rattle.job_reader.specs.Limits.{most_shots, most_distance, most_bearing}
use Rattle.job_reader.specs.Refusals.{refusal}
use Rattle.job.specs.Job.{refused, listed, job_of, answer_of}
use Rattle.job.specs.Theorems.{text_of}
use Rattle.survex_reader.specs.Lines.{left_of, fed, remains}
use Rattle.survex_reader.specs.LineTheorems.{remaining}
use Rattle.survex_reader.specs.Legs.{Said, leg, wrong, words}
use Rattle.survex_reader.specs.LegTheorems.{Formed, Ranged}
use Rattle.survex.specs.Survex.{data_form, is_data, leg_line, survex_of}

-- the shot that a leg says
unfoldable pub shot_of : Said → Form
shot_of (leg from to d b) = shot from to d b
shot_of (wrong code) = no_form

-- the shots of the legs, in order: all lines that remain but the first
abbrev pub shots_in : List ℕ → List Form
shots_in text = map (λ l. shot_of (leg_line l)) (drop 1 (remaining (lines text)))

-- a shot that a job takes
unfoldable pub Fit : Form → Type 0
Fit (seeds a0 a1 a2 b0 b1 b2) = ⊥
Fit (sigma d b) = ⊥
Fit (shot from to d b) = (name from ≡ true) × (name to ≡ true) × (d ≤ most_distance) × (b ≤ most_bearing)
Fit no_form = ⊥

unfoldable pub AllFit : List Form → Type 0
AllFit [] = Unit {0}
AllFit (x ∷ xs) = Fit x × AllFit xs

-- ---- Which line is refused

-- the refusal code of what a leg's line says, 0 where it is a leg
unfoldable pub code_of : Said → ℕ
code_of (leg from to d b) = 0
code_of (wrong code) = code

-- the refusal code of a line, 0 where it has none, by whether a line before it remained: one that does not remain has none; "the first
-- remaining line is" the data line, else 21; "the rest are legs"
unfoldable pub line_code : Bool → List ℕ → ℕ
line_code later l = cond (remains l) (cond later (code_of (leg_line l)) (cond (is_data l) 0 21)) 0

-- the refusal codes of lines, one after another
unfoldable pub line_codes : Bool → List (List ℕ) → List ℕ
line_codes later [] = []
line_codes later (l ∷ ls) = line_code later l ∷ line_codes (later || remains l) ls

-- the first code that is not 0, after i others
pub record FirstIn (codes : List ℕ) (i code : ℕ) : Type 0 where
  pub none_before : (j : ℕ) → j < i → get_or codes j 0 ≡ 0
  pub here : get_or codes i 0 ≡ code
  pub bad : code ≡ 0 → ⊥

-- line i + 1 of a text is the first that is refused, and gets that code
abbrev pub FirstBad : List ℕ → ℕ → ℕ → Type 0
FirstBad text i code = FirstIn (line_codes false (lines text)) i code

-- a line has its line feed and a leg's form; and it is in its ranges too
abbrev pub FormedLine : List ℕ → Type 0
FormedLine l = (fed l ≡ true) × Formed (words (left_of l))

abbrev pub RangedLine : List ℕ → Type 0
RangedLine l = Ranged (words (left_of l))

pub record Theorems : Type 0 where
  -- the data line is those bytes, and has its line feed
  pub data_line : (l : List ℕ) → is_data l ≡ true → (fed l ≡ true) × (left_of l ≡ data_form)
  -- a text is accepted just where the first line that remains is the data line and all others are legs; what is then written is the shot
  -- lines of the legs in order, with distances and bearings that a job takes
  pub accepted : (text : List ℕ) (l : List ℕ) (ls : List (List ℕ)) → remaining (lines text) ≡ l ∷ ls → is_data l ≡ true
      → AllFit (shots_in text) → survex_of text ≡ listed (text_of (shots_in text))
  pub converted : (text bytes : List ℕ) → survex_of text ≡ listed bytes
      → (l : List ℕ) × (ls : List (List ℕ)) × (remaining (lines text) ≡ l ∷ ls) × (is_data l ≡ true) ×
      (bytes ≡ text_of (shots_in text)) × AllFit (shots_in text)
  -- "first bad line first": the first line that is refused gives code and line; and a text in which a line remains is refused for that alone
  pub first_bad_lem : (text : List ℕ) (i code : ℕ) → FirstBad text i code → survex_of text ≡ refused code (i + 1)
  pub bad_first : (text : List ℕ) (code k : ℕ) → survex_of text ≡ refused code k → (remaining (lines text) ≡ [] → ⊥)
      → (i : ℕ) × (k ≡ i + 1) × (i < length (lines text)) × FirstBad text i code
  -- "no data line, told at the next line": where no line remains, 21 at the line after the last; and at no other time is that line told
  pub no_data_line : (text : List ℕ) → remaining (lines text) ≡ [] → survex_of text ≡ refused 21 (length (lines text) + 1)
  pub line_after : (text : List ℕ) (code k : ℕ) → survex_of text ≡ refused code k → length (lines text) < k → remaining (lines text) ≡ []
  -- "21 before 22": a leg's line gets 21 just where it lacks its line feed or a leg's form, 22 just where it has both and is not in its
  -- ranges, and no other code
  pub leg_21 : (l : List ℕ) → (code_of (leg_line l) ≡ 21) ↔ (FormedLine l → ⊥)
  pub leg_22 : (l : List ℕ) → (code_of (leg_line l) ≡ 22) ↔ (FormedLine l × (RangedLine l → ⊥))
  pub leg_0 : (l : List ℕ) → (code_of (leg_line l) ≡ 0) ↔ (FormedLine l × RangedLine l)
  pub leg_codes : (l : List ℕ) (code : ℕ) → code_of (leg_line l) ≡ code → (code ≡ 0 → ⊥) → (code ≡ 21 → ⊥) → code ≡ 22
  -- what is written has those lines, and the job's reader reads each as the shot
  pub read_back : (text bytes : List ℕ) → survex_of text ≡ listed bytes → map read_line (lines bytes) ≡ shots_in text
  -- under any fit seeds line and sigma line, a converted survey of at most 500 legs is listed
  pub listed_job : (text bytes one two : List ℕ) → survex_of text ≡ listed bytes → length (shots_in text) ≤ most_shots
      → refusal 1 (read_line one) ≡ 0 → refusal 2 (read_line two) ≡ 0
      → (answer_of (job_of (one ++ (two ++ bytes))) listing_room).code ≡ 0
