-- Drift over the latest readings (document 02, Job 9): what the calls on a window return, refusals included.
use Rattle.std.specs.Prelude.{ℕ, ◌+◌, ◌^◌, Bool, cond, ◌&&◌, List, [], ◌∷◌, leb, ltb, ℤ, pos, nat_abs, ◌+ℤ◌, ◌-ℤ◌, ◌*ℤ◌, get_or, set, replicate, eqb, Result, Ok, Err}
use Rattle.drift.specs.declared.window.Members.{Members}
use Rattle.drift.specs.declared.window.Refusal.{Refusal}
use Rattle.drift.specs.declared.window.Refusal.TheVariants.{Unfit}
use Rattle.drift.specs.declared.sums.Sums.{Sums}

-- ---- Limits

-- "A window of N, 1 to 4096"
abbrev pub most_size : ℕ
most_size = 4096

unfoldable pub size_fit : ℕ → Bool
size_fit n = leb 1 n && leb n most_size

-- Not "a sum beyond 2^42 in size"; one of just that is within.
abbrev pub most_sum : ℕ
most_sum = 2 ^ 42

unfoldable pub within_limit : ℤ → Bool
within_limit sum = leb (nat_abs sum) most_sum

-- Not 17: N is 1 to 4096, no more than N are held, the place is one of the N, and both sums are within.
unfoldable pub fit_of : ℕ → ℕ → ℕ → ℤ → ℤ → Bool
fit_of size held place sum squares =
    size_fit size && (leb held size && (ltb place size && (within_limit sum && within_limit squares)))

-- ---- Windows

-- N, how many samples are held, the place that the next one takes, the places, and the two sums.
pub record Window : Type 0 where
  pub size : ℕ
  pub held : ℕ
  pub place : ℕ
  pub places : List ℤ
  pub sum : ℤ
  pub squares : ℤ

pub record WindowAnswer : Type 0 where
  pub code : ℕ
  pub window : Window

abbrev pub window_of : ℕ → ℕ → ℕ → List ℤ → ℤ → ℤ → Window
window_of size held place places sum squares =
    record { size = size; held = held; place = place; places = places; sum = sum; squares = squares }

-- "no samples held, every place 0, sums 0"
unfoldable pub empty_places : List ℤ
empty_places = replicate most_size (pos 0)

abbrev pub empty_window : ℕ → Window
empty_window n = window_of n 0 0 empty_places (pos 0) (pos 0)

abbrev pub accepted : Window → WindowAnswer
accepted w = record { code = 0; window = w }

-- 17, "returned: N 0, no samples held, every place 0, sums 0"
abbrev pub refusal : WindowAnswer
refusal = record { code = 17; window = empty_window 0 }

-- The window passed in, or 17.
unfoldable pub checked_of : Window → WindowAnswer
checked_of w = cond (fit_of w.size w.held w.place w.sum w.squares) (accepted w) refusal

-- ---- Making and pushing

-- "N is fixed when the window is made; making a new one starts empty."
unfoldable pub made_of : ℕ → WindowAnswer
made_of n = cond (size_fit n) (accepted (empty_window n)) refusal

-- "Once N are held, each new one pushes out the oldest": what leaves where old stands at the place of the next; before that nothing, 0.
abbrev pub leaving_of : ℕ → ℕ → ℤ → ℤ
leaving_of held size old = cond (ltb held size) (pos 0) old

abbrev pub held_after : ℕ → ℕ → ℕ
held_after held size = cond (ltb held size) (held + 1) held

-- The places are taken in turn.
abbrev pub place_after : ℕ → ℕ → ℕ
place_after place size = cond (ltb (place + 1) size) (place + 1) 0

-- Both sums after one sample left and another came.
abbrev pub sums_of : ℤ → ℤ → ℤ → ℤ → Sums
sums_of sum squares out x = record { sum = sum -ℤ out +ℤ x; squares = squares -ℤ out *ℤ out +ℤ x *ℤ x }

-- A fit window after a sample x.
unfoldable pub moved_of : Window → ℤ → Window
moved_of w x =
    let out : ℤ = leaving_of w.held w.size (get_or w.places w.place (pos 0)) in
    let sums : Sums = sums_of w.sum w.squares out x in
    window_of w.size (held_after w.held w.size) (place_after w.place w.size) (set w.places w.place x) sums.sum sums.squares

unfoldable pub pushed_of : Window → ℤ → WindowAnswer
pushed_of w x = cond (fit_of w.size w.held w.place w.sum w.squares) (accepted (moved_of w x)) refusal

-- The answer of the last of some pushes, each passed the window that the one before returned; of the first answer where there are none.
unfoldable pub pushed_from : WindowAnswer → List ℤ → WindowAnswer
pushed_from answer [] = answer
pushed_from answer (x ∷ samples) = pushed_from (pushed_of answer.window x) samples

-- Many samples at once: the pushes one by one; with no samples the window is tested and comes back.
unfoldable pub pushed_all : Window → List ℤ → WindowAnswer
pushed_all w [] = checked_of w
pushed_all w (x ∷ samples) = pushed_from (pushed_of w x) samples

-- ---- A window whose places stand apart, in the caller's memory

abbrev pub with_places : Members → List ℤ → Window
with_places m places = window_of m.size m.held m.place places m.sum m.squares

abbrev pub fits : Members → Bool
fits m = fit_of m.size m.held m.place m.sum m.squares

abbrev pub members_of : Window → Members
members_of w = record { size = w.size; held = w.held; place = w.place; sum = w.sum; squares = w.squares }

-- What a call returns: the members where the code is 0, else the refusal, which stands for a window of N 0 with none held and both sums 0.
abbrev pub answered : WindowAnswer → Result Members Refusal
answered r = cond (eqb r.code 0) (Ok (members_of r.window)) (Err Unfit)

-- The number of a refusal
abbrev pub number_of : Refusal → ℕ
number_of Unfit = 17

-- The code of what a call returns, and its members: of a refusal its number, and a window of N 0 with none held.
abbrev pub answer_code : Result Members Refusal → ℕ
answer_code (Ok m) = 0
answer_code (Err e) = number_of e

abbrev pub answer_members : Result Members Refusal → Members
answer_members (Ok m) = m
answer_members (Err e) = members_of (empty_window 0)
