-- `moved` is `moved_of` on the caller's places; that the window is fit gives the place and the ranges of the sums.
use Rattle.std.proofs.Common.{◌≡◌, ◌∙◌, ap, refl, ℕ, arith, ℤ, pos, get_or, to_z-of_z, SFits, w16, w64, rules}
use Rattle.signs.proofs.Sizes.{size_fits}
use Rattle.drift.specs.declared.sums.Sums.{Sums}
use Rattle.drift.specs.Drift.{Window, members_of, with_places, moved_of, leaving_of, held_after, place_after, sums_of}
use Rattle.drift.proofs.Fitness.{fit_true}
use Rattle.drift.proofs.window.Members.moved.Goals as goal

pub bounds-places-at : goal.bounds-places-at
bounds-places-at c = let f = fit_true _ _ _ _ _ c.requires in omega arith

pub sums_after-sums-requires : goal.sums_after-sums-requires
sums_after-sums-requires c =
    let f = fit_true _ _ _ _ _ c.requires in
    let m = c.args.self in
    rw (to_z-of_z (size_fits w64 m.sum (omega (arith, f.sum_small))), to_z-of_z (size_fits w64 m.squares (omega (arith, f.squares_small)))) (f.sum_small, f.squares_small)

pub bounds-places-at-2 : goal.bounds-places-at-2
bounds-places-at-2 c = let f = fit_true _ _ _ _ _ c.requires in omega arith

pub place_after-requires : goal.place_after-requires
place_after-requires c = let f = fit_true _ _ _ _ _ c.requires in omega (arith, f.within, f.small)

-- what the callees returned, each by its promise
at_once : (w : Window) (x : ℤ) {out : ℤ} {sums : Sums} {held place : ℕ}
    → out ≡ leaving_of w.held w.size (get_or w.places w.place (pos 0))
    → sums ≡ sums_of w.sum w.squares out x
    → held ≡ held_after w.held w.size
    → place ≡ place_after w.place w.size
    → record { size = w.size; held = held; place = place; sum = sums.sum; squares = sums.squares } ≡ members_of (moved_of w x)
unfolding moved_of
at_once w x o s h p = rw (p, h, s, o) refl

pub returns-clause-value : goal.returns-clause-value
returns-clause-value c =
    let start = c in
    let a = start.args in
    let m = a.self in
    let f = fit_true _ _ _ _ _ c.requires in
    let sums = c.sums_after-sums in
    let leaving = c.leaving-out in
    let s : SFits w64 sums.result.sum = search rules in
    let q : SFits w64 sums.result.squares = search rules in
    let was : SFits w16 (get_or a.places.now m.place (pos 0)) = search rules in
    let left : SFits w16 leaving.result = search rules in
    let x = to_z-of_z start.ranges.sample in
    let after = rw (to_z-of_z (size_fits w64 m.sum (omega (arith, f.sum_small))), to_z-of_z (size_fits w64 m.squares (omega (arith, f.squares_small))), to_z-of_z left, x) at sums.ensures in
    rw (to_z-of_z s, to_z-of_z q)
    (at_once (with_places m a.places.now) a.sample (leaving.ensures ∙ ap (λ (y : ℤ). leaving_of m.held m.size y) (to_z-of_z was)) after c.held_after.ensures c.place_after.ensures)
