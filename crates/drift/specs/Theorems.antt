-- What a window's sums are and when a call on one is refused (document 02, Job 9), proved in proofs/Theorems.antt and proofs/Refusals.antt.
use Rattle.std.specs.Prelude.{ℕ, ◌-◌, ◌≤◌, ◌<◌, ◌≡◌, List, [], ◌∷◌, ◌++◌, ◌↔◌, ◌⊎◌, ℤ, pos, negsuc, nat_abs, ◌+ℤ◌, ◌*ℤ◌, length, drop}
use Rattle.std.specs.Int.{w16}
use Rattle.std.proofs.Common.{SFits}
use Rattle.drift.specs.Drift.{Window, WindowAnswer, most_sum, window_of, empty_places, accepted, made_of, pushed_of, pushed_all, members_of, answered, answer_code, answer_members}

-- "16-bit samples"
unfoldable pub Samples : List ℤ → Type 0
Samples [] = Unit
Samples (x ∷ samples) = SFits w16 x × Samples samples

-- "the last N, or .. all that came where fewer came"
unfoldable pub latest : ℕ → List ℤ → List ℤ
latest n samples = drop (length samples - n) samples

-- A sum "worked out afresh": of the samples themselves, or of their squares.
unfoldable pub sum_of : (ℤ → ℤ) → List ℤ → ℤ
sum_of f [] = pos 0
sum_of f (x ∷ samples) = f x +ℤ sum_of f samples

abbrev pub itself : ℤ → ℤ
itself x = x

abbrev pub square : ℤ → ℤ
square x = x *ℤ x

-- The window after pushes one by one, each passed what the one before returned.
unfoldable pub after : Window → List ℤ → Window
after w [] = w
after w (x ∷ samples) = after (pushed_of w x).window samples

-- A window made for n after "any run of samples from its making".
abbrev pub after_run : ℕ → List ℤ → Window
after_run n samples = after (made_of n).window samples

pub record Drift (n : ℕ) (samples : List ℤ) : Type 0 where
  -- neither making, nor any next push of the run, nor all of it at once is refused
  pub made : (made_of n).code ≡ 0
  pub next : (x : ℤ) → SFits w16 x → (pushed_of (after_run n samples) x).code ≡ 0
  pub at_once : (pushed_all (made_of n).window samples).code ≡ 0
  -- "N is fixed when the window is made"
  pub size : (after_run n samples).size ≡ n
  pub held : (after_run n samples).held ≡ length (latest n samples)
  -- "both sums .. equal those worked out afresh", and stay within 2^42
  pub sum : (after_run n samples).sum ≡ sum_of itself (latest n samples)
  pub squares : (after_run n samples).squares ≡ sum_of square (latest n samples)
  pub sum_within : nat_abs (after_run n samples).sum ≤ most_sum
  pub squares_within : nat_abs (after_run n samples).squares ≤ most_sum

-- Many samples at once are the pushes one by one, for any window, fit or not: as many as there are and then one more.
pub record OneByOne (w : Window) : Type 0 where
  pub one : (x : ℤ) → pushed_all w (x ∷ []) ≡ pushed_of w x
  pub more : (samples : List ℤ) (x : ℤ) → pushed_all w (samples ++ (x ∷ [])) ≡ pushed_of (pushed_all w samples).window x
  pub window : (x : ℤ) (samples : List ℤ) → (pushed_all w (x ∷ samples)).window ≡ after w (x ∷ samples)

-- ---- One at a time and many at once, mixed

pub data Push : Type 0 where
  one : ℤ → Push
  many : List ℤ → Push

abbrev pub pushing : Window → Push → WindowAnswer
pushing w (one x) = pushed_of w x
pushing w (many samples) = pushed_all w samples

-- The answer of the last of some pushes, each passed the window that the one before returned.
unfoldable pub pushes : WindowAnswer → List Push → WindowAnswer
pushes answer [] = answer
pushes answer (p ∷ l) = pushes (pushing answer.window p) l

-- The samples of all of them, joined.
abbrev pub samples_of : Push → List ℤ
samples_of (one x) = x ∷ []
samples_of (many samples) = samples

unfoldable pub joined : List Push → List ℤ
joined [] = []
joined (p ∷ l) = samples_of p ++ joined l

-- "After any run of samples from its making": however they are pushed, the code is 0 and the window is that of the joined samples.
abbrev pub Mixed : ℕ → List Push → Type 0
Mixed n l = pushes (made_of n) l ≡ accepted (after_run n (joined l))

-- ---- Refusals, with the document's own numbers

-- "N outside 1 to 4096"
abbrev pub SizeOutside : ℕ → Type 0
SizeOutside n = (n < 1) ⊎ (4096 < n)

-- "a sum beyond 2^42 in size"
abbrev pub Beyond : ℤ → Type 0
Beyond sum = 4398046511104 < nat_abs sum

-- "17: N outside 1 to 4096, at making or in a window passed in, one said to hold more than N or marking a place outside it, or a sum beyond 2^42 in
-- size".
pub data Unfit (w : Window) : Type 0 where
  size_outside : SizeOutside w.size → Unfit w
  more_held : w.size < w.held → Unfit w
  place_outside : w.size ≤ w.place → Unfit w
  sum_beyond : Beyond w.sum → Unfit w
  squares_beyond : Beyond w.squares → Unfit w

-- 17 just where the cause holds, and 0 just where it does not.
pub record JustFor (cause : Type 0) (code : ℕ) : Type 0 where
  pub refused : (code ≡ 17) ↔ cause
  pub fine : (code ≡ 0) ↔ (cause → ⊥)

pub record Seventeen : Type 0 where
  pub making : (n : ℕ) → JustFor (SizeOutside n) (made_of n).code
  pub pushing : (w : Window) (x : ℤ) → JustFor (Unfit w) (pushed_of w x).code
  -- with no samples the window is tested; with more, the last push decides: a refused window is unfit
  pub none : (w : Window) → JustFor (Unfit w) (pushed_all w []).code
  pub many : (w : Window) (samples : List ℤ) (x : ℤ) → JustFor (Unfit (pushed_all w samples).window) (pushed_all w (samples ++ (x ∷ []))).code

-- A window of one sample, none held, with these sums.
abbrev pub with_sums : ℤ → ℤ → Window
with_sums sum squares = window_of 1 0 0 empty_places sum squares

-- A sum of 2^42 in size is accepted and the next is refused, either sum and either sign.
pub record Limit (x : ℤ) : Type 0 where
  pub at : (pushed_of (with_sums (pos 4398046511104) (pos 4398046511104)) x).code ≡ 0
  pub at_minus : (pushed_of (with_sums (negsuc 4398046511103) (negsuc 4398046511103)) x).code ≡ 0
  pub past_sum : (pushed_of (with_sums (pos 4398046511105) (pos 0)) x).code ≡ 17
  pub past_sum_minus : (pushed_of (with_sums (negsuc 4398046511104) (pos 0)) x).code ≡ 17
  pub past_squares : (pushed_of (with_sums (pos 0) (pos 4398046511105)) x).code ≡ 17
  pub past_squares_minus : (pushed_of (with_sums (pos 0) (negsuc 4398046511104)) x).code ≡ 17

-- ---- What a call returns

-- What is returned for an answer has its code and its members.
pub record Kept (r : WindowAnswer) : Type 0 where
  pub code : answer_code (answered r) ≡ r.code
  pub members : answer_members (answered r) ≡ members_of r.window

pub record Answered : Type 0 where
  pub made : (n : ℕ) → Kept (made_of n)
  pub pushed : (w : Window) (x : ℤ) → Kept (pushed_of w x)
  pub all : (w : Window) (samples : List ℤ) → Kept (pushed_all w samples)
