-- Where the latest n samples lie in the places of a window, and that the sums follow as one comes and one leaves.
use mathlib.Core.Path.{◌≡◌, refl, ap, sym, ◌∙◌}
use mathlib.Core.Bool.{Bool, true, false, cond}
use mathlib.Core.List.{List, [], ◌∷◌, ◌++◌, append_assoc, append-nil}
use Prim.Native.Nat.{ℕ, suc, ◌+◌, ◌-◌, ◌*◌, ◌≤◌, ◌<◌}
use native.Mathlib.Omega.{arith}
use native.Mathlib.Numerals.{add-one}
use lib.Dec.{ltb}
use lib.IntN.{ℤ, pos, nat_abs, ◌+ℤ◌, ◌-ℤ◌, +ℤ_assoc, +ℤ_comm, +ℤ_idr, +ℤ_idl, +ℤ-neg_ℤ_cancel}
use lib.ListN.{length, get_or, take, drop, set, length-append, length-take, length-drop, drop_of_length-le}
use lib.Seq.{drop-cons, get_or-take, take-set-lt, drop-set-lt, take-suc-set, drop-append-le, drop-drop}
use mir.Syntax.{w16}
use mir.Val.{SFits}
use borrow.Author.Tests.{ltb-true, ltb-false, lt-ltb, le-ltb}
use Rattle.drift.specs.Drift.{leaving_of, held_after, place_after}
use Rattle.drift.specs.Theorems.{Samples, latest, sum_of}
use Rattle.signs.proofs.Sizes.{sum_size}

-- ---- The latest n, one sample on: the oldest leaves once there are n

abbrev pub grown : ℕ → List ℤ → ℤ → List ℤ
grown n q x = cond (ltb (length q) n) q (drop 1 q) ++ (x ∷ [])

module _ (n : ℕ) (x : ℤ) (some : 1 ≤ n) where
  pub latest_more : (l : List ℤ) → latest n (l ++ (x ∷ [])) ≡ grown n (latest n l) x
  unfolding latest
  latest_more l = by_test (ltb (length l) n) refl
    where
      k : length (l ++ (x ∷ [])) ≡ length l + 1
      k = length-append l (x ∷ [])

      by_test : (t : Bool) → ltb (length l) n ≡ t → drop (length (l ++ (x ∷ [])) - n) (l ++ (x ∷ [])) ≡ grown n (drop (length l - n) l) x
      by_test true e =
          let h = ltb-true (length l) n e in
          let z : length l - n ≡ 0 = omega arith in
          let z' : length (l ++ (x ∷ [])) - n ≡ 0 = omega (arith, k) in
          rw (z', z, e)
      by_test false e =
          let h = ltb-false (length l) n e in
          let z : length (l ++ (x ∷ [])) - n ≡ suc (length l - n) = omega (arith, k) in
          let m : suc (length l - n) ≤ length l = omega arith in
          let t : ltb (length (drop (length l - n) l)) n ≡ false = le-ltb _ n (omega (arith, length-drop (length l - n) l)) in
          rw (z, drop-append-le (suc (length l - n)) l (x ∷ []) m, t, drop-drop 1 (length l - n) l, add-one (length l - n))

-- ---- A sum of a number of each sample: both sums are one of these

module _ (f : ℤ → ℤ) where
  sum_more : (q : List ℤ) (x : ℤ) → sum_of f (q ++ (x ∷ [])) ≡ sum_of f q +ℤ f x
  unfolding sum_of
  sum_more [] x = +ℤ_idr (f x) ∙ sym (+ℤ_idl (f x))
  sum_more (y ∷ q) x = ap (λ (z : ℤ). f y +ℤ z) (sum_more q x) ∙ sym (+ℤ_assoc (f y) (sum_of f q) (f x))

  -- the first one leaves
  sum_out : (y : ℤ) (q : List ℤ) → sum_of f (y ∷ q) -ℤ f y ≡ sum_of f q
  unfolding sum_of
  sum_out y q = ap (λ (z : ℤ). z -ℤ f y) (+ℤ_comm (f y) (sum_of f q)) ∙ +ℤ-neg_ℤ_cancel (sum_of f q) (f y)

  -- no sum passes its length times the bound of one
  pub sum_bound : (B : ℕ) → ((x : ℤ) → SFits w16 x → nat_abs (f x) ≤ B) → (q : List ℤ) → Samples q → nat_abs (sum_of f q) ≤ length q * B
  unfolding sum_of Samples
  sum_bound B h [] s = omega arith
  sum_bound B h (x ∷ q) (g, s) = omega (arith, sum_size (f x) (sum_of f q), h x g, sum_bound B h q s)

-- ---- Where the samples lie: from place 0 on while the window fills; once it is full, the oldest at the place that the next one takes

pub data Shape (n : ℕ) (q : List ℤ) (held place : ℕ) (l : List ℤ) : Type 0 where
  filling : held ≡ length q → place ≡ length q → length q < n → take place l ≡ q → Shape n q held place l
  full : held ≡ n → place < n → drop place (take n l) ++ take place l ≡ q → Shape n q held place l

-- of a full window: all but the oldest
rest : ℕ → List ℤ → ℕ → List ℤ
rest n l p = drop (suc p) (take n l) ++ take p l

module _ (n : ℕ) (l : List ℤ) (room : n ≤ length l) where
  full_length : (q : List ℤ) (p : ℕ) → p < n → drop p (take n l) ++ take p l ≡ q → length q ≡ n
  full_length q p h t =
      ap length (sym t)
      ∙ length-append (drop p (take n l)) (take p l)
      ∙ omega (arith, length-drop p (take n l), length-take n l, length-take p l)

  pub shape_bounds : (q : List ℤ) (held place : ℕ) → Shape n q held place l → (held ≡ length q) × (length q ≤ n) × (place < n)
  shape_bounds q held place (filling a b h t) = (a, omega arith, omega arith)
  shape_bounds q held place (full a h t) =
      let long = full_length q place h t in
      (omega arith, omega arith, h)

  module _ (x : ℤ) where
    module _ (p : ℕ) (h : p < n) where
      oldest : drop p (take n l) ++ take p l ≡ get_or l p (pos 0) ∷ rest n l p
      unfolding rest
      oldest = rw (drop-cons (take n l) p (pos 0) (omega (arith, length-take n l)), get_or-take n l p (pos 0) h)

      turned : drop (suc p) (take n (set l p x)) ++ take (suc p) (set l p x) ≡ rest n l p ++ (x ∷ [])
      unfolding rest
      turned =
          rw (take-set-lt n l p x h, drop-set-lt (suc p) (take n l) p x (omega arith), take-suc-set l p x (omega arith), append_assoc)

      turned_last : suc p ≡ n → drop 0 (take n (set l p x)) ++ take 0 (set l p x) ≡ rest n l p ++ (x ∷ [])
      unfolding rest
      turned_last e =
          rw (append-nil, drop_of_length-le (take n l) {i = suc p} (omega (arith, length-take n l)))
          (ap (λ (m : ℕ). take m (set l p x)) (sym e) ∙ take-suc-set l p x (omega arith))

    -- a sample goes to its place
    pub shape_more : (q : List ℤ) (held place : ℕ) → Shape n q held place l → Shape n (grown n q x) (held_after held n) (place_after place n) (set l place x)
    shape_more q held place (filling a b h t) = by_test (ltb (place + 1) n) refl
      where
        k : length (q ++ (x ∷ [])) ≡ length q + 1
        k = length-append q (x ∷ [])

        stored : take (place + 1) (set l place x) ≡ q ++ (x ∷ [])
        stored = rw (add-one place, take-suc-set l place x (omega arith), t)

        by_test : (u : Bool) → ltb (place + 1) n ≡ u → Shape n (grown n q x) (held_after held n) (cond u (place + 1) 0) (set l place x)
        by_test true e =
            rw (lt-ltb (length q) n h, lt-ltb held n (omega arith))
            (filling (omega (arith, k)) (omega (arith, k)) (omega (arith, k, ltb-true (place + 1) n e)) stored)
        by_test false e =
            let z : place + 1 ≡ n = omega (arith, ltb-false (place + 1) n e) in
            rw (lt-ltb (length q) n h, lt-ltb held n (omega arith))
            (full (omega arith) (omega arith) (append-nil _ ∙ ap (λ (m : ℕ). take m (set l place x)) (sym z) ∙ stored))
    shape_more q held place (full a h t) = by_test (ltb (place + 1) n) refl
      where
        long : length q ≡ n
        long = full_length q place h t

        out : drop 1 q ≡ rest n l place
        out = ap (drop 1) (sym t ∙ oldest place h)

        by_test : (u : Bool) → ltb (place + 1) n ≡ u → Shape n (grown n q x) (held_after held n) (cond u (place + 1) 0) (set l place x)
        by_test true e =
            rw (le-ltb (length q) n (omega (arith, long)), le-ltb held n (omega arith), out)
            (full a (ltb-true (place + 1) n e) (rw (add-one place) (turned place h)))
        by_test false e =
            rw (le-ltb (length q) n (omega (arith, long)), le-ltb held n (omega arith), out)
            (full a (omega arith) (turned_last place h (omega (arith, ltb-false (place + 1) n e))))

    -- and a sum follows
    pub sum_follows : (f : ℤ → ℤ) → f (pos 0) ≡ pos 0 → (q : List ℤ) (held place : ℕ) → Shape n q held place l
        → sum_of f q -ℤ f (leaving_of held n (get_or l place (pos 0))) +ℤ f x ≡ sum_of f (grown n q x)
    sum_follows f z q held place (filling a b h t) =
        rw (lt-ltb (length q) n h, lt-ltb held n (omega arith), z, sum_more f q x, +ℤ_idr (sum_of f q))
    sum_follows f z q held place (full a h t) =
        let old = get_or l place (pos 0) in
        let e : q ≡ old ∷ rest n l place = sym t ∙ oldest place h in
        let long = full_length q place h t in
        rw (le-ltb (length q) n (omega (arith, long)), le-ltb held n (omega arith), e, sum_more f (rest n l place) x, sum_out f old (rest n l place))
