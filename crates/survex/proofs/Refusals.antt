-- Which line of a text is refused, and with what.
use Prim.Native.Nat.{ℕ, zero, suc, ◌+◌, ◌<◌}
use native.Mathlib.Omega.{arith}
use mathlib.Core.Path.{◌≡◌, refl, sym, ap, ◌∙◌}
use mathlib.Core.Bool.{Bool, true, false, cond, ◌&&◌, ◌||◌, true≢false}
use mathlib.Core.List.{List, [], ◌∷◌, ◌++◌}
use mathlib.Core.Logic.{◌↔◌}
use lib.ListN.{length, get_or}
use Rattle.text.proofs.Tests.{test, ◌and◌, each}
use Rattle.job_lines.specs.Forms.{shot, print_line}
use Rattle.job.specs.Job.{Outcome, refused, listed, onto}
use Rattle.job.proofs.Jobs.{onto_refused, refused_not_listed}
use Rattle.survex_reader.specs.Lines.{left_of, fed, remains}
use Rattle.survex_reader.specs.LineTheorems.{remaining}
use Rattle.survex_reader.specs.Legs.{Said, leg, wrong, words, leg_form, leg_range, read_leg}
use Rattle.survex_reader.proofs.LegTheorems as legs
use Rattle.survex.specs.Survex.{is_data, leg_line, on_leg, legs_from, survex_from}
use Rattle.survex.specs.Theorems.{code_of, line_code, line_codes, FirstIn, FormedLine, RangedLine}

-- ---- The code of one line

-- its two tests
abbrev is_formed : List ℕ → Bool
is_formed l = fed l && leg_form (words (left_of l))

abbrev is_ranged : List ℕ → Bool
is_ranged l = leg_range (words (left_of l))

leg_code : (l : List ℕ) → code_of (leg_line l) ≡ cond (is_formed l) (cond (is_ranged l) 0 22) 21
unfolding leg_line read_leg code_of
leg_code l = go _ _ _ _ (fed l) (leg_form (words (left_of l))) (leg_range (words (left_of l)))
  where
    go : (a b : List ℕ) (c d : ℕ) (x y z : Bool)
        → code_of (cond x (cond y (cond z (leg a b c d) (wrong 22)) (wrong 21)) (wrong 21)) ≡ cond (x && y) (cond z 0 22) 21
    go a b c d true true true = refl
    go a b c d true true false = refl
    go a b c d true false z = refl
    go a b c d false y z = refl

-- what a code tells of two tests, and the other way round
abbrev chain : Bool → Bool → ℕ
chain x y = cond x (cond y 0 22) 21

chain_other : (x y : Bool) (n : ℕ) → chain x y ≡ n → (n ≡ 0 → ⊥) → (n ≡ 21 → ⊥) → n ≡ 22
chain_other true true n e p q = absurd (p (sym e))
chain_other true false n e p q = sym e
chain_other false y n e p q = absurd (q (sym e))

record Codes (P Q : Type 0) (n : ℕ) : Type 0 where
  at_21 : (n ≡ 21) ↔ (P → ⊥)
  at_22 : (n ≡ 22) ↔ (P × (Q → ⊥))
  at_0 : (n ≡ 0) ↔ (P × Q)

chain_codes : (P Q : Type 0) (x y : Bool) → (x ≡ true) ↔ P → (y ≡ true) ↔ Q → Codes P Q (chain x y)
chain_codes P Q false y p q =
    record {
      at_21 = (λ e h. true≢false (sym (p.1 h)), λ n. refl);
      at_22 = (λ e. absurd (omega (arith, e)), λ h. absurd (true≢false (sym (p.1 h.0))));
      at_0 = (λ e. absurd (omega (arith, e)), λ h. absurd (true≢false (sym (p.1 h.0))));
    }
chain_codes P Q true false p q =
    record {
      at_21 = (λ e. absurd (omega (arith, e)), λ n. absurd (n (p.0 refl)));
      at_22 = (λ e. (p.0 refl, λ h. true≢false (sym (q.1 h))), λ n. refl);
      at_0 = (λ e. absurd (omega (arith, e)), λ h. absurd (true≢false (sym (q.1 h.1))));
    }
chain_codes P Q true true p q =
    record {
      at_21 = (λ e. absurd (omega (arith, e)), λ n. absurd (n (p.0 refl)));
      at_22 = (λ e. absurd (omega (arith, e)), λ h. absurd (h.1 (q.0 refl)));
      at_0 = (λ e. (p.0 refl, q.0 refl), λ h. refl);
    }

module _ (l : List ℕ) where
  formed : (is_formed l ≡ true) ↔ FormedLine l
  formed = (
    λ h. let (f, v) = each (test (fed l) and test (leg_form (words (left_of l)))) h in (f, ((legs.theorems).formed _).0 v),
    λ h. rw h.0 (((legs.theorems).formed _).1 h.1),
  )

  codes : Codes (FormedLine l) (RangedLine l) (code_of (leg_line l))
  codes = rw (leg_code l) (chain_codes (FormedLine l) (RangedLine l) (is_formed l) (is_ranged l) formed ((legs.theorems).ranged _))

  pub leg_21 : (code_of (leg_line l) ≡ 21) ↔ (FormedLine l → ⊥)
  leg_21 = codes.at_21

  pub leg_22 : (code_of (leg_line l) ≡ 22) ↔ (FormedLine l × (RangedLine l → ⊥))
  leg_22 = codes.at_22

  pub leg_0 : (code_of (leg_line l) ≡ 0) ↔ (FormedLine l × RangedLine l)
  leg_0 = codes.at_0

  pub leg_codes : (code : ℕ) → code_of (leg_line l) ≡ code → (code ≡ 0 → ⊥) → (code ≡ 21 → ⊥) → code ≡ 22
  leg_codes code e = chain_other (is_formed l) (is_ranged l) code (sym (leg_code l) ∙ e)

-- a line that is wrong has a code
wrong_code : (l : List ℕ) → leg_line l ≡ wrong 0 → ⊥
unfolding leg_line read_leg
wrong_code l e = go _ _ _ _ (fed l) (leg_form (words (left_of l))) (leg_range (words (left_of l))) e
  where
    nonzero : Said → ℕ
    nonzero (leg a b c d) = 1
    nonzero (wrong n) = n

    go : (a b : List ℕ) (c d : ℕ) (x y z : Bool) → cond x (cond y (cond z (leg a b c d) (wrong 22)) (wrong 21)) (wrong 21) ≡ wrong 0 → ⊥
    go a b c d true true true f = omega (arith, ap nonzero f)
    go a b c d true true false f = omega (arith, ap nonzero f)
    go a b c d true false z f = omega (arith, ap nonzero f)
    go a b c d false y z f = omega (arith, ap nonzero f)

-- ---- From the first line that is refused to the refusal

first_later : (n : ℕ) (codes : List ℕ) (i code : ℕ) → FirstIn (n ∷ codes) (suc i) code → FirstIn codes i code
first_later n codes i code f = record { none_before = λ j h. f.none_before (suc j) (omega (arith, h)); here = f.here; bad = f.bad }

first_after : (n : ℕ) (codes : List ℕ) (i code : ℕ) → n ≡ 0 → FirstIn codes i code → FirstIn (n ∷ codes) (suc i) code
first_after n codes i code e f = record { none_before = λ j. before j; here = f.here; bad = f.bad }
  where
    before : (j : ℕ) → j < suc i → get_or (n ∷ codes) j 0 ≡ 0
    before zero h = e
    before (suc j) h = f.none_before j (omega (arith, h))

first_here : (n : ℕ) (codes : List ℕ) (code : ℕ) → n ≡ code → (code ≡ 0 → ⊥) → FirstIn (n ∷ codes) 0 code
first_here n codes code e b = record { none_before = λ j h. absurd (omega (arith, h)); here = e; bad = b }

-- the legs
leg_no : (k : ℕ) (l : List ℕ) (code : ℕ) (rest : Outcome) → code_of (leg_line l) ≡ code → (code ≡ 0 → ⊥) → on_leg k (leg_line l) rest ≡ refused code k
unfolding code_of
leg_no k l code rest e b = go (leg_line l) e
  where
    go : (s : Said) → code_of s ≡ code → on_leg k s rest ≡ refused code k
    go (leg f t c d) g = absurd (b (sym g))
    go (wrong n) g = ap (λ (m : ℕ). refused m k) g

leg_yes : (k : ℕ) (l : List ℕ) (rest : Outcome) (n j : ℕ) → code_of (leg_line l) ≡ 0 → rest ≡ refused n j → on_leg k (leg_line l) rest ≡ refused n j
unfolding code_of
leg_yes k l rest n j e h = go (leg_line l) refl e
  where
    go : (s : Said) → leg_line l ≡ s → code_of s ≡ 0 → on_leg k s rest ≡ refused n j
    go (leg f t c d) q g = onto_refused _ rest n j h
    go (wrong m) q g = absurd (wrong_code l (q ∙ ap wrong g))

pub legs_first : (ls : List (List ℕ)) (k i code : ℕ) → FirstIn (line_codes true ls) i code → legs_from k ls ≡ refused code (k + i)
unfolding legs_from line_codes line_code
legs_first [] k i code f = absurd (f.bad (sym f.here))
legs_first (l ∷ ls) k zero code f = go (remains l) f.here
  where
    go : (x : Bool) → cond x (code_of (leg_line l)) 0 ≡ code
        → cond x (on_leg k (leg_line l) (legs_from (k + 1) ls)) (legs_from (k + 1) ls) ≡ refused code (k + 0)
    go true e = leg_no k l code (legs_from (k + 1) ls) e f.bad ∙ ap (refused code) {x = k} {y = k + 0} (omega arith)
    go false e = absurd (f.bad (sym e))
legs_first (l ∷ ls) k (suc i) code f = go (remains l) (f.none_before 0 (omega arith)) (legs_first ls (k + 1) i code (first_later _ _ i code f))
  where
    go : (x : Bool) → cond x (code_of (leg_line l)) 0 ≡ 0 → legs_from (k + 1) ls ≡ refused code (k + 1 + i)
        → cond x (on_leg k (leg_line l) (legs_from (k + 1) ls)) (legs_from (k + 1) ls) ≡ refused code (k + suc i)
    go true e ih = leg_yes k l (legs_from (k + 1) ls) code (k + 1 + i) e ih ∙ ap (refused code) {x = k + 1 + i} {y = k + suc i} (omega arith)
    go false e ih = ih ∙ ap (refused code) {x = k + 1 + i} {y = k + suc i} (omega arith)

pub survex_first : (ls : List (List ℕ)) (k i code : ℕ) → FirstIn (line_codes false ls) i code → survex_from k ls ≡ refused code (k + i)
unfolding survex_from line_codes line_code
survex_first [] k i code f = absurd (f.bad (sym f.here))
survex_first (l ∷ ls) k zero code f = go (remains l) (is_data l) f.here
  where
    go : (x y : Bool) → cond x (cond y 0 21) 0 ≡ code
        → cond x (cond y (legs_from (k + 1) ls) (refused 21 k)) (survex_from (k + 1) ls) ≡ refused code (k + 0)
    go true true e = absurd (f.bad (sym e))
    go true false e = ap (λ (n : ℕ). refused n k) e ∙ ap (refused code) {x = k} {y = k + 0} (omega arith)
    go false y e = absurd (f.bad (sym e))
survex_first (l ∷ ls) k (suc i) code f =
    go (remains l) (is_data l) (f.none_before 0 (omega arith)) (first_later _ _ i code f) (survex_first ls (k + 1) i code)
  where
    go : (x y : Bool) → ◌≡◌ {A = ℕ} (cond x (cond y 0 21) 0) 0 → FirstIn (line_codes x ls) i code
        → (FirstIn (line_codes false ls) i code → survex_from (k + 1) ls ≡ refused code (k + 1 + i))
        → cond x (cond y (legs_from (k + 1) ls) (refused 21 k)) (survex_from (k + 1) ls) ≡ refused code (k + suc i)
    go true true e g ih = legs_first ls (k + 1) i code g ∙ ap (refused code) {x = k + 1 + i} {y = k + suc i} (omega arith)
    go true false e g ih = absurd (omega (arith, e))
    go false y e g ih = ih g ∙ ap (refused code) {x = k + 1 + i} {y = k + suc i} (omega arith)

-- ---- And from the refusal to that line

refused_code : (m j n k : ℕ) → refused m j ≡ refused n k → m ≡ n
refused_code m j n k e = cc

refused_line : (m j n k : ℕ) → refused m j ≡ refused n k → j ≡ k
refused_line m j n k e = cc

listed_not_refused : (b : List ℕ) (n k : ℕ) → listed b ≡ refused n k → ⊥
listed_not_refused b n k e = refused_not_listed n k b (sym e)

onto_is_refused : (a : List ℕ) (o : Outcome) (n k : ℕ) → onto a o ≡ refused n k → o ≡ refused n k
onto_is_refused a (refused m j) n k e = e
onto_is_refused a (listed l) n k e = absurd (listed_not_refused (a ++ l) n k e)

-- the line, so many on from line k
pub record Tells (codes : List ℕ) (k code n : ℕ) : Type 0 where
  pub i : ℕ
  pub is : n ≡ k + i
  pub within : i < length codes
  pub first : FirstIn codes i code

tells_on : (m : ℕ) (codes : List ℕ) (k code n : ℕ) → m ≡ 0 → Tells codes (k + 1) code n → Tells (m ∷ codes) k code n
tells_on m codes k code n e t =
    record { i = suc t.i; is = omega (arith, t.is); within = omega (arith, t.within); first = first_after m codes t.i code e t.first }

pub legs_tell : (ls : List (List ℕ)) (k code n : ℕ) → legs_from k ls ≡ refused code n → Tells (line_codes true ls) k code n
unfolding legs_from line_codes line_code code_of
legs_tell [] k code n e = absurd (listed_not_refused [] code n e)
legs_tell (l ∷ ls) k code n e = go (remains l) (legs_tell ls (k + 1) code n) e
  where
    go : (x : Bool) → (legs_from (k + 1) ls ≡ refused code n → Tells (line_codes true ls) (k + 1) code n)
        → cond x (on_leg k (leg_line l) (legs_from (k + 1) ls)) (legs_from (k + 1) ls) ≡ refused code n
        → Tells (cond x (code_of (leg_line l)) 0 ∷ line_codes true ls) k code n
    go false ih f = tells_on 0 (line_codes true ls) k code n refl (ih f)
    go true ih f = said (leg_line l) refl f
      where
        said : (s : Said) → leg_line l ≡ s → on_leg k s (legs_from (k + 1) ls) ≡ refused code n → Tells (code_of (leg_line l) ∷ line_codes true ls) k code n
        said (leg a b c d) q g =
            tells_on (code_of (leg_line l)) (line_codes true ls) k code n (ap code_of q) (ih (onto_is_refused (print_line (shot a b c d)) (legs_from (k + 1) ls) code n g))
        said (wrong m) q g =
            let z : code_of (leg_line l) ≡ code = ap code_of q ∙ refused_code m k code n g in
            record {
              i = 0;
              is = omega (arith, refused_line m k code n g);
              within = omega arith;
              first = first_here (code_of (leg_line l)) (line_codes true ls) code z (λ w. wrong_code l (q ∙ ap wrong (refused_code m k code n g ∙ w)));
            }

pub survex_tells : (ls : List (List ℕ)) (k code n : ℕ) → survex_from k ls ≡ refused code n → (remaining ls ≡ [] → ⊥) → Tells (line_codes false ls) k code n
unfolding survex_from line_codes line_code remaining
survex_tells [] k code n e r = absurd (r refl)
survex_tells (l ∷ ls) k code n e r = go (remains l) (is_data l) (survex_tells ls (k + 1) code n) e r
  where
    go : (x y : Bool) → (survex_from (k + 1) ls ≡ refused code n → (remaining ls ≡ [] → ⊥) → Tells (line_codes false ls) (k + 1) code n)
        → cond x (cond y (legs_from (k + 1) ls) (refused 21 k)) (survex_from (k + 1) ls) ≡ refused code n
        → (cond x (l ∷ remaining ls) (remaining ls) ≡ [] → ⊥) → Tells (cond x (cond y 0 21) 0 ∷ line_codes x ls) k code n
    go true true ih f r = tells_on 0 (line_codes true ls) k code n refl (legs_tell ls (k + 1) code n f)
    go true false ih f r =
        let z = refused_code 21 k code n f in
        record {
          i = 0;
          is = omega (arith, refused_line 21 k code n f);
          within = omega arith;
          first = first_here 21 (line_codes true ls) code z (λ w. omega (arith, w, z));
        }
    go false y ih f r = tells_on 0 (line_codes false ls) k code n refl (ih f r)

pub codes_length : (later : Bool) (ls : List (List ℕ)) → length (line_codes later ls) ≡ length ls
unfolding line_codes
codes_length later [] = refl
codes_length later (l ∷ ls) = ap suc (codes_length (later || remains l) ls)

-- no line remains
pub survex_none : (ls : List (List ℕ)) (k : ℕ) → remaining ls ≡ [] → survex_from k ls ≡ refused 21 (k + length ls)
unfolding survex_from remaining
survex_none [] k e = ap (refused 21) {x = k} {y = k + 0} (omega arith)
survex_none (l ∷ ls) k e = go (remains l) (survex_none ls (k + 1)) e
  where
    go : (x : Bool) → (remaining ls ≡ [] → survex_from (k + 1) ls ≡ refused 21 (k + 1 + length ls)) → cond x (l ∷ remaining ls) (remaining ls) ≡ []
        → cond x (cond (is_data l) (legs_from (k + 1) ls) (refused 21 k)) (survex_from (k + 1) ls) ≡ refused 21 (k + suc (length ls))
    go true ih f = absurd (omega (arith, ap length f))
    go false ih f = ih f ∙ ap (refused 21) {x = k + 1 + length ls} {y = k + suc (length ls)} (omega arith)

-- the first line that remains is the data line
pub survex_data : (ls : List (List ℕ)) (k : ℕ) (bytes : List ℕ) → survex_from k ls ≡ listed bytes
    → (l : List ℕ) × (ms : List (List ℕ)) × (remaining ls ≡ l ∷ ms) × (is_data l ≡ true)
unfolding survex_from remaining
survex_data [] k bytes e = absurd (refused_not_listed 21 k bytes e)
survex_data (l ∷ ls) k bytes e = go (remains l) (is_data l) refl (survex_data ls (k + 1) bytes) e
  where
    go : (x y : Bool) → is_data l ≡ y
        → (survex_from (k + 1) ls ≡ listed bytes → (m : List ℕ) × (ms : List (List ℕ)) × (remaining ls ≡ m ∷ ms) × (is_data m ≡ true))
        → cond x (cond y (legs_from (k + 1) ls) (refused 21 k)) (survex_from (k + 1) ls) ≡ listed bytes
        → (m : List ℕ) × (ms : List (List ℕ)) × (cond x (l ∷ remaining ls) (remaining ls) ≡ m ∷ ms) × (is_data m ≡ true)
    go true true d ih f = (l, remaining ls, refl, d)
    go true false d ih f = absurd (refused_not_listed 21 k bytes f)
    go false y d ih f = ih f
