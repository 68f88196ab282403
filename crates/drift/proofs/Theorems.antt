-- The theorems of specs/Theorems.antt: both sums after any run of samples, and many samples at once, alone and mixed with pushes.
use mathlib.Core.Path.{◌≡◌, refl, ap, sym, subst, ◌∙◌}
use mathlib.Core.Bool.{Bool, true, false, cond}
use mathlib.Core.List.{List, [], ◌∷◌, ◌++◌, append_assoc, append-nil}
use Prim.Native.Nat.{ℕ, ◌-◌, ◌*◌, ◌^◌, ◌≤◌}
use native.Mathlib.Omega.{arith}
use native.Mathlib.Nat.{mul-le-mul}
use lib.Dec.{ltb}
use lib.IntN.{ℤ, pos, nat_abs, ◌*ℤ◌}
use lib.ListN.{length, drop, length-set, length-replicate}
use lib.Seq.{drop-nil}
use mir.Syntax.{w16}
use mir.Val.{SFits}
use borrow.Author.Tests.{le-leb}
use Rattle.drift.specs.Drift.{Window, WindowAnswer, most_size, most_sum, size_fit, fit_of, empty_places, empty_window, accepted, refusal, checked_of, made_of, moved_of, pushed_of, pushed_from, pushed_all}
use Rattle.drift.specs.Theorems.{Samples, latest, sum_of, itself, square, after, Drift, OneByOne, Push, pushing, pushes, samples_of, joined, Mixed}
use Rattle.drift.specs.Theorems.Push.{one, many}
use Rattle.signs.proofs.Sizes.{product_size, fits_size}
use Rattle.drift.proofs.Fitness.{Fit, true_fit}
use Rattle.drift.proofs.Latest.{grown, latest_more, sum_bound, Shape, filling, shape_bounds, shape_more, sum_follows}
use Rattle.drift.proofs.Runs.{tested, all_from}

-- ---- Many samples at once

from_more : (r : WindowAnswer) (l : List ℤ) (x : ℤ) → pushed_from r (l ++ (x ∷ [])) ≡ pushed_of (pushed_from r l).window x
unfolding pushed_from
from_more r [] x = refl
from_more r (y ∷ l) x = from_more (pushed_of r.window y) l x

from_window : (r : WindowAnswer) (l : List ℤ) → (pushed_from r l).window ≡ after r.window l
unfolding pushed_from after
from_window r [] = refl
from_window r (x ∷ l) = from_window (pushed_of r.window x) l

from_append : (r : WindowAnswer) (l m : List ℤ) → pushed_from r (l ++ m) ≡ pushed_from (pushed_from r l) m
unfolding pushed_from
from_append r [] m = refl
from_append r (x ∷ l) m = from_append (pushed_of r.window x) l m

as_accepted : (r : WindowAnswer) → r.code ≡ 0 → r ≡ accepted r.window
as_accepted r e = λ i. record { code = e i; window = r.window }

all_more : (w : Window) (l : List ℤ) (x : ℤ) → pushed_all w (l ++ (x ∷ [])) ≡ pushed_of (pushed_all w l).window x
unfolding pushed_all pushed_from
all_more w [] x = sym (tested w x)
all_more w (y ∷ l) x = from_more (pushed_of w y) l x

-- Many samples at once are the pushes one by one.
pub one_by_one : (w : Window) → OneByOne w
unfolding pushed_all pushed_from after
one_by_one w = record { one = λ x. refl; more = all_more w; window = λ x l. from_window (pushed_of w x) l }

-- After a refused push every push is refused again, with the same window.
pub refused_again : (x : ℤ) → pushed_of refusal.window x ≡ refusal
unfolding pushed_of fit_of size_fit
refused_again x = refl

-- ---- A window, and the latest samples that it holds

record Holds (n : ℕ) (q : List ℤ) (w : Window) : Type 0 where
  sized : w.size ≡ n
  room : length w.places ≡ most_size
  sum : w.sum ≡ sum_of itself q
  squares : w.squares ≡ sum_of square q
  small : Samples q
  shape : Shape n q w.held w.place w.places

samples_more : (q : List ℤ) (x : ℤ) → Samples q → SFits w16 x → Samples (q ++ (x ∷ []))
unfolding Samples
samples_more [] x s f = (f, tt)
samples_more (y ∷ q) x (g, s) f = (g, samples_more q x s f)

samples_apart : (l m : List ℤ) → Samples (l ++ m) → Samples l × Samples m
unfolding Samples
samples_apart [] m s = (tt, s)
samples_apart (x ∷ l) m (f, s) = let (a, b) = samples_apart l m s in ((f, a), b)

samples_rest : (q : List ℤ) → Samples q → Samples (drop 1 q)
unfolding Samples
samples_rest [] s = tt
samples_rest (y ∷ q) (g, s) = s

samples_grown : (n : ℕ) (q : List ℤ) (x : ℤ) → Samples q → SFits w16 x → Samples (grown n q x)
samples_grown n q x s f = by_test (ltb (length q) n)
  where
    by_test : (t : Bool) → Samples (cond t q (drop 1 q) ++ (x ∷ []))
    by_test true = samples_more q x s f
    by_test false = samples_more (drop 1 q) x (samples_rest q s) f

square_bound : (x : ℤ) → SFits w16 x → nat_abs (x *ℤ x) ≤ 2 ^ 30
square_bound x f =
    let h : nat_abs x * nat_abs x ≤ 2 ^ 15 * 2 ^ 15 = mul-le-mul (fits_size w16 x f) (fits_size w16 x f) in
    omega (arith, product_size x x)

module _ (n : ℕ) (some : 1 ≤ n) (most : n ≤ most_size) where
  module _ (q : List ℤ) (w : Window) (h : Holds n q w) where
    -- n samples of at most 2^15, and squares of at most 2^30, add up to at most 2^42: no push is refused
    fine : Fit w.size w.held w.place w.sum w.squares
    fine =
        let (a, b, d) = shape_bounds n w.places (omega (arith, h.room)) q w.held w.place h.shape in
        let s : nat_abs w.sum ≤ most_sum = rw h.sum (omega (arith, sum_bound itself (2 ^ 15) (fits_size w16) q h.small)) in
        let t : nat_abs w.squares ≤ most_sum = rw h.squares (omega (arith, sum_bound square (2 ^ 30) square_bound q h.small)) in
        record {
          positive = omega (arith, h.sized);
          small = omega (arith, h.sized);
          holds = omega (arith, h.sized);
          within = omega (arith, h.sized);
          sum_small = s;
          squares_small = t;
        }

    fine_true : fit_of w.size w.held w.place w.sum w.squares ≡ true
    fine_true = true_fit _ _ _ _ _ fine

    moves : (x : ℤ) → pushed_of w x ≡ accepted (moved_of w x)
    unfolding pushed_of
    moves x = rw fine_true

    still : (x : ℤ) → SFits w16 x → Holds n (grown n q x) (moved_of w x)
    unfolding moved_of
    still x f =
        let inside : n ≤ length w.places = omega (arith, h.room) in
        record {
          sized = h.sized;
          room = length-set w.places w.place x ∙ h.room;
          sum = rw (h.sized, h.sum) (sum_follows n w.places inside x itself refl q w.held w.place h.shape);
          squares = rw (h.sized, h.squares) (sum_follows n w.places inside x square refl q w.held w.place h.shape);
          small = samples_grown n q x h.small f;
          shape = rw h.sized (shape_more n w.places inside x q w.held w.place h.shape);
        }

  -- a run, from what was seen before
  run : (l seen : List ℤ) (r : WindowAnswer) → r.code ≡ 0 → Holds n (latest n seen) r.window → Samples l
      → ((pushed_from r l).code ≡ 0) × Holds n (latest n (seen ++ l)) (pushed_from r l).window
  unfolding pushed_from Samples
  run [] seen r z h s = rw (append-nil seen) (z, h)
  run (x ∷ l) seen r z h (f, s) =
      let w = r.window in
      let h' : Holds n (latest n (seen ++ (x ∷ []))) (moved_of w x) = rw (latest_more n x some seen) (still (latest n seen) w h x f) in
      rw (pushed_from, moves (latest n seen) w h x) (rw (append_assoc seen (x ∷ []) l) at (run l (seen ++ (x ∷ [])) (accepted (moved_of w x)) refl h' s))

  made_is : made_of n ≡ accepted (empty_window n)
  unfolding made_of size_fit
  made_is = rw (le-leb 1 n some, le-leb n most_size most)

  nothing_yet : latest n [] ≡ []
  unfolding latest
  nothing_yet = drop-nil (0 - n)

  start : Holds n (latest n []) (empty_window n)
  unfolding empty_places sum_of Samples
  start =
      rw nothing_yet
      (record { sized = refl; room = length-replicate most_size (pos 0); sum = refl; squares = refl; small = tt; shape = filling refl refl some refl })

  tested_start : checked_of (empty_window n) ≡ accepted (empty_window n)
  unfolding checked_of
  tested_start = rw (fine_true (latest n []) (empty_window n) start)

  -- After any run of samples from the making of a window, both sums are those worked out afresh over the last n, or over all that came
  -- where fewer came; no push of the run is refused, one by one or all at once, and the sums stay within 2^42.
  pub drift : (l : List ℤ) → Samples l → Drift n l
  unfolding latest
  drift l s =
      let (z, h) = run l [] (accepted (empty_window n)) refl start s in
      let h' : Holds n (latest n l) (after (empty_window n) l) = rw (from_window (accepted (empty_window n)) l) at h in
      let w = after (empty_window n) l in
      let f = fine (latest n l) w h' in
      let (a, b, d) = shape_bounds n w.places (omega (arith, h'.room)) (latest n l) w.held w.place h'.shape in
      record {
        made = rw made_is refl;
        next = λ x g. rw made_is (ap (λ (r : WindowAnswer). r.code) (moves (latest n l) w h' x));
        at_once = rw (made_is, ← all_from (empty_window n) l, tested_start) z;
        size = rw made_is h'.sized;
        held = rw made_is a;
        sum = rw made_is h'.sum;
        squares = rw made_is h'.squares;
        sum_within = rw made_is f.sum_small;
        squares_within = rw made_is f.squares_small;
      }

  -- ---- One at a time and many at once, mixed

  -- a push of either kind on a window of the run: its samples one by one
  each : (seen : List ℤ) (w : Window) → Holds n (latest n seen) w → (p : Push) → pushing w p ≡ pushed_from (accepted w) (samples_of p)
  unfolding pushed_from checked_of
  each seen w h (one x) = refl
  each seen w h (many l) = sym (all_from w l) ∙ rw (checked_of, fine_true (latest n seen) w h)

  all_joined : (l : List Push) (seen : List ℤ) (w : Window) → Holds n (latest n seen) w → Samples (joined l)
      → pushes (accepted w) l ≡ pushed_from (accepted w) (joined l)
  unfolding pushes joined pushed_from
  all_joined [] seen w h s = refl
  all_joined (p ∷ l) seen w h s =
      let (sp, sl) = samples_apart (samples_of p) (joined l) s in
      let (z, h') = run (samples_of p) seen (accepted w) refl h sp in
      let r = pushed_from (accepted w) (samples_of p) in
      let on : pushes r l ≡ pushed_from r (joined l) = subst (λ (q : WindowAnswer). pushes q l ≡ pushed_from q (joined l)) (sym (as_accepted r z)) (all_joined l (seen ++ samples_of p) r.window h' sl) in
      rw (each seen w h p) (on ∙ sym (from_append (accepted w) (samples_of p) (joined l)))

  -- However the samples are pushed, no push is refused and the window is that of the joined samples.
  pub mixed : (l : List Push) → Samples (joined l) → Mixed n l
  mixed l s =
      let (z, h) = run (joined l) [] (accepted (empty_window n)) refl start s in
      rw made_is
      (all_joined l [] (empty_window n) start s
      ∙ as_accepted _ z
      ∙ ap accepted (from_window (accepted (empty_window n)) (joined l)))
