-- Jobs as lists of forms: the text that says them, its lines, and the listing.
use Prim.Native.Nat.{ℕ, suc, ◌+◌, ◌-◌, ◌≤◌, ◌<◌}
use native.Mathlib.Omega.{arith}
use native.Mathlib.Nat.{add-zero}
use mathlib.Core.Path.{◌≡◌, refl, sym, ap, ap₂, ◌∙◌}
use mathlib.Core.Bool.{Bool, true, false, cond}
use mathlib.Core.List.{List, [], ◌∷◌, ◌++◌, map, append_assoc}
use lib.Dec.{eqb, ltb}
use lib.ListN.{length}
use borrow.Author.Tests.{eqb-true, eqb-false, lt-ltb, le-ltb, ltb-false}
use Rattle.text.specs.Fields.{decimal}
use Rattle.text.specs.Scan.{one_of, lines}
use Rattle.text.specs.Forms.{is_empty}
use Rattle.text.specs.Theorems.{join}
use Rattle.text.proofs.Split.{join_lines}
use Rattle.text.proofs.Plain.{plains, no_plains, decimal_plain, name_plain, feed_form, line_printed as line-form}
use Rattle.job_lines.specs.Forms.{
  Form,
  seeds,
  sigma,
  shot,
  no_form,
  seeds_form,
  sigma_form,
  shot_form,
  read_line,
  print_line,
  Printable,
}
use Rattle.listing_rows.specs.Rows.{header, end_row}
use Rattle.job_reader.specs.Refusals.{formless, refusal}
use Rattle.job_reader.specs.Setting.{start}
use Rattle.job.specs.Job.{Outcome, refused, listed, onto, outcome, listing_of, setting_after, printed}
use Rattle.job.specs.Theorems.{text_of, rows, Accepts}
use Rattle.job_reader.specs.declared.walk.Setting.{Setting}
use Rattle.job_lines.proofs.RoundTrip.{all_marks, read_printed, printed_read}
use Rattle.job.proofs.Going.{outcome_yes, outcome_no}

all_feed : (feed_form seeds_form ≡ true) × (feed_form sigma_form ≡ true) × (feed_form shot_form ≡ true)
unfolding feed_form is_empty one_of seeds_form sigma_form shot_form
all_feed = (refl, refl, refl)

-- a line that can be printed is one line
pub line_printed : (x : Form) (rest : List ℕ) → Printable x → lines (print_line x ++ rest) ≡ print_line x ∷ lines rest
unfolding print_line Printable
line_printed (seeds a0 a1 a2 b0 b1 b2) rest h =
    line-form seeds_form (decimal a0 ∷ decimal a1 ∷ decimal a2 ∷ decimal b0 ∷ decimal b1 ∷ decimal b2 ∷ []) rest all_feed.0
    (plains _ _ (decimal_plain a0) (plains _ _ (decimal_plain a1) (plains _ _ (decimal_plain a2)
    (plains _ _ (decimal_plain b0) (plains _ _ (decimal_plain b1) (plains _ _ (decimal_plain b2) no_plains))))))
    all_marks.0
line_printed (sigma d b) rest h =
    line-form sigma_form (decimal d ∷ decimal b ∷ []) rest all_feed.1
    (plains _ _ (decimal_plain d) (plains _ _ (decimal_plain b) no_plains)) all_marks.1
line_printed (shot from to d b) rest h =
    line-form shot_form (from ∷ to ∷ decimal d ∷ decimal b ∷ []) rest all_feed.2
    (plains _ _ (name_plain from h.0)
    (plains _ _ (name_plain to h.1) (plains _ _ (decimal_plain d) (plains _ _ (decimal_plain b) no_plains))))
    all_marks.2
line_printed no_form rest h = absurd h

-- the lines of the text that says a list of forms
pub lines_text : (k : ℕ) (xs : List Form) → Accepts k xs → lines (text_of xs) ≡ map print_line xs
unfolding text_of Accepts lines
lines_text k [] h = refl
lines_text k (x ∷ xs) h =
    line_printed x (text_of xs) h.0 ∙ ap (λ (ls : List (List ℕ)). print_line x ∷ ls) (lines_text (k + 1) xs h.2)

outcome_end : (k : ℕ) (s : Setting) → 3 ≤ k → outcome k s [] ≡ listed (end_row (k - 3))
unfolding outcome
outcome_end k s h = rw (le-ltb k 3 h)

-- one row before the others, and the count at the end
row_first : (a r : List ℕ) (m n : ℕ) → m ≡ n → listed (a ++ (r ++ end_row m)) ≡ listed (a ++ r ++ end_row n)
row_first a r m n e = ap listed (sym (append_assoc a r (end_row m)) ∙ ap (λ (i : ℕ). a ++ r ++ end_row i) e)

-- accepted lines are listed
pub outcome_accepts : (xs : List Form) (k : ℕ) (s : Setting) → Accepts k xs → 3 ≤ k + length xs
    → outcome k s (map print_line xs) ≡ listed (rows s xs ++ end_row (k + length xs - 3))
unfolding Accepts rows
outcome_accepts [] k s h n =
    let e : k - 3 ≡ k + 0 - 3 = omega arith in
    outcome_end k s (omega (arith, n)) ∙ ap (λ (i : ℕ). listed (end_row i)) e
outcome_accepts (x ∷ xs) k s h n =
    let e = read_printed x h.0 in
    let i : k + 1 + length xs - 3 ≡ k + suc (length xs) - 3 = omega arith in
    outcome_yes k s (print_line x) (map print_line xs) (ap (refusal k) e ∙ h.1)
    ∙ rw (e, outcome_accepts xs (k + 1) (setting_after x s) h.2 (omega (arith, n)))
    (row_first (printed x s) (rows (setting_after x s) xs) (k + 1 + length xs - 3) (k + suc (length xs) - 3) i)

pub listed_lines : (xs : List Form) → Accepts 1 xs → 2 ≤ length xs
    → listing_of (text_of xs) ≡ listed (header ++ (rows start xs ++ end_row (length xs - 2)))
unfolding listing_of
listed_lines xs h n =
    let i : 1 + length xs - 3 ≡ length xs - 2 = omega arith in
    rw (lines_text 1 xs h, outcome_accepts xs 1 start h (omega (arith, n)), i)

pub refused_not_listed : (n k : ℕ) (l : List ℕ) → refused n k ≡ listed l → ⊥
refused_not_listed n k l e = let z : ◌≡◌ {A = ℕ} 0 1 = cc in omega arith

-- accepted lines before a line that is not, and before the end of a text that lacks a line
pub onto_refused : (a : List ℕ) (o : Outcome) (n k : ℕ) → o ≡ refused n k → onto a o ≡ refused n k
onto_refused a (refused m j) n k e = e
onto_refused a (listed l) n k e = absurd (refused_not_listed n k l (sym e))

module _ (l : List ℕ) (ls : List (List ℕ)) where
  pub outcome_bad : (xs : List Form) (k : ℕ) (s : Setting) → Accepts k xs → (refusal (k + length xs) (read_line l) ≡ 0 → ⊥)
      → outcome k s (map print_line xs ++ (l ∷ ls)) ≡ refused (refusal (k + length xs) (read_line l)) (k + length xs)
  unfolding Accepts
  outcome_bad [] k s h b =
      let e : k + 0 ≡ k = add-zero k in
      rw e (outcome_no k s l ls (λ t. b (ap (λ (i : ℕ). refusal i (read_line l)) e ∙ t)))
  outcome_bad (x ∷ xs) k s h b =
      let e = read_printed x h.0 in
      let i : k + suc (length xs) ≡ k + 1 + length xs = omega arith in
      rw i
      (outcome_yes k s (print_line x) (map print_line xs ++ (l ∷ ls)) (ap (refusal k) e ∙ h.1)
      ∙ rw e
      (onto_refused (printed x s) _ _ _
      (outcome_bad xs (k + 1) (setting_after x s) h.2 (λ t. b (ap (λ (j : ℕ). refusal j (read_line l)) i ∙ t)))))

pub outcome_missing : (xs : List Form) (k : ℕ) (s : Setting) → Accepts k xs → k + length xs < 3
    → outcome k s (map print_line xs) ≡ refused 8 (k + length xs)
unfolding Accepts outcome
outcome_missing [] k s h n = let e : k + 0 ≡ k = add-zero k in rw (e, lt-ltb k 3 (omega (arith, n)))
outcome_missing (x ∷ xs) k s h n =
    let e = read_printed x h.0 in
    let i : k + suc (length xs) ≡ k + 1 + length xs = omega arith in
    rw i
    (outcome_yes k s (print_line x) (map print_line xs) (ap (refusal k) e ∙ h.1)
    ∙ rw e (onto_refused (printed x s) _ _ _ (outcome_missing xs (k + 1) (setting_after x s) h.2 (omega (arith, n)))))

-- The other way: lines that are listed are accepted lines
join_text : (xs : List Form) → text_of xs ≡ join (map print_line xs)
unfolding join text_of
join_text [] = refl
join_text (x ∷ xs) = ap (λ (m : List ℕ). print_line x ++ m) (join_text xs)

-- what listed lines are
pub record Says (k : ℕ) (s : Setting) (ls : List (List ℕ)) (bytes : List ℕ) : Type 0 where
  pub forms : List Form
  pub accepts : Accepts k forms
  pub enough : 3 ≤ k + length forms
  pub printed_lines : map print_line forms ≡ ls
  pub listing : bytes ≡ rows s forms ++ end_row (k + length forms - 3)

pub onto_listed : (a : List ℕ) (o : Outcome) (b : List ℕ) → onto a o ≡ listed b → (r : List ℕ) × (o ≡ listed r) × (b ≡ a ++ r)
onto_listed a (refused n k) b e = absurd (refused_not_listed n k b e)
onto_listed a (listed r) b e = (r, refl, (cc))

pub not_no_form : (k : ℕ) (x : Form) → refusal k x ≡ 0 → x ≡ no_form → ⊥
unfolding refusal formless
not_no_form k x h e = let t = rw e at h in omega (arith, t)

pub bytes_same : (a b : List ℕ) → listed a ≡ listed b → a ≡ b
bytes_same a b e = cc

pub outcome_says : (ls : List (List ℕ)) (k : ℕ) (s : Setting) (bytes : List ℕ) → outcome k s ls ≡ listed bytes → Says k s ls bytes
unfolding Accepts rows outcome
outcome_says [] k s bytes e = go (ltb k 3) refl e
  where
    go : (b : Bool) → ltb k 3 ≡ b → cond b (refused 8 k) (listed (end_row (k - 3))) ≡ listed bytes → Says k s [] bytes
    go true t e = absurd (refused_not_listed 8 k bytes e)
    go false t e =
        let h = ltb-false k 3 t in
        let i : k - 3 ≡ k + 0 - 3 = omega arith in
        record {
          forms = [];
          accepts = tt;
          enough = omega arith;
          printed_lines = refl;
          listing = bytes_same bytes (end_row (k - 3)) (sym e) ∙ ap end_row i;
        }
outcome_says (l ∷ ls) k s bytes e = go (λ t r. outcome_says ls (k + 1) t r) (eqb (refusal k (read_line l)) 0) refl
  where
    x : Form
    x = read_line l

    more : (refusal k x ≡ 0) → (r : List ℕ) → bytes ≡ printed x s ++ r → Says (k + 1) (setting_after x s) ls r → Says k s
        (l ∷ ls) bytes
    more h r f ih =
        let p = printed_read l (not_no_form k x h) in
        let i : k + 1 + length ih.forms - 3 ≡ k + suc (length ih.forms) - 3 = omega arith in
        record {
          forms = x ∷ ih.forms;
          accepts = (p.0, h, ih.accepts);
          enough = omega (arith, ih.enough);
          printed_lines = ap₂ (λ (a : List ℕ) (b : List (List ℕ)). a ∷ b) p.1 ih.printed_lines;
          listing = f ∙ ap (λ (m : List ℕ). printed x s ++ m) ih.listing ∙ sym
              (append_assoc (printed x s) (rows (setting_after x s) ih.forms) _) ∙ ap
              (λ (n : ℕ). printed x s ++ rows (setting_after x s) ih.forms ++ end_row n) i;
        }

    go : ((t : Setting) (r : List ℕ) → outcome (k + 1) t ls ≡ listed r → Says (k + 1) t ls r) → (b : Bool) → eqb
        (refusal k x) 0 ≡ b → Says k s (l ∷ ls) bytes
    go ih true t =
        let h = eqb-true (refusal k x) 0 t in
        let (r, p, q) = onto_listed (printed x s) (outcome (k + 1) (setting_after x s) ls) bytes
        (sym (outcome_yes k s l ls h) ∙ e) in
        more h r q (ih (setting_after x s) r p)
    go ih false t = absurd (refused_not_listed (refusal k x) k bytes
        (sym (outcome_no k s l ls (eqb-false (refusal k x) 0 t)) ∙ e))

pub listed_says : (text bytes : List ℕ) → listing_of text ≡ listed bytes
    → (xs : List Form) × Accepts 1 xs × (2 ≤ length xs) × (text_of xs ≡ text) ×
    (bytes ≡ header ++ (rows start xs ++ end_row (length xs - 2)))
unfolding listing_of
listed_says text bytes e =
    let (r, p, q) = onto_listed header (outcome 1 start (lines text)) bytes e in
    let t = outcome_says (lines text) 1 start r p in
    let i : 1 + length t.forms - 3 ≡ length t.forms - 2 = omega arith in (
      t.forms,
      t.accepts,
      omega (arith, t.enough),
      join_text t.forms ∙ ap join t.printed_lines ∙ join_lines text,
      q ∙ ap (λ (m : List ℕ). header ++ m) (t.listing ∙ ap (λ (n : ℕ). rows start t.forms ++ end_row n) i),
    )
