-- `pair_of` meets its contract: the two sizes, rounded and turned, are the samples.
use Rattle.std.proofs.Common.{◌≡◌, ap, ◌∙◌, ℕ, ◌≤◌, le_trans, arith, ℤ, pos, neg_ℤ}
use Rattle.exact.specs.Pair.{turn}
use Rattle.angle.specs.Steps.{quarter, in_quarter, sine_at, cosine_at, signed_of}
use Rattle.angle.proofs.Ranges.{sine_range, cosine_range}
use Rattle.box_muller.specs.Steps.{size, rounded}
use Rattle.box_muller.proofs.RoundingLaws.{turned_rounded}
use Rattle.sample.proofs.passes.pair_of.Goals as goal

pub size-requires : goal.size-requires
size-requires g c = (c.requires.0, rw (c.sine.ensures _ c.requires.1) (sine_range _))

pub size-requires-2 : goal.size-requires-2
size-requires-2 g c = (c.requires.0, rw (c.cosine.ensures _ c.requires.1) (cosine_range _))

-- two sizes that are turned are two numbers that are rounded
of_turn : (f F v : ℕ) {s c : ℕ} {first second : ℤ} → f ≤ 49 → s ≡ size f F (sine_at (in_quarter v)) → c ≡ size f F (cosine_at (in_quarter v))
    → (first, second) ≡ turn neg_ℤ (quarter v) (pos s, pos c) → (first ≡ rounded f F (signed_of v).0) × (second ≡ rounded f F (signed_of v).1)
unfolding signed_of
of_turn f F v few es ec e =
    let (p, q) = turned_rounded f F (quarter v) (sine_at (in_quarter v)) (cosine_at (in_quarter v)) few in
    let at = rw (es, ec) at e in
    (ap (λ (x : ℤ × ℤ). x.0) at ∙ p, ap (λ (x : ℤ × ℤ). x.1) at ∙ q)

pub returns : goal.returns
returns g c =
    let sine = c.sine.ensures _ c.requires.1 in
    let cosine = c.cosine.ensures _ c.requires.1 in
    of_turn _ c.args.f c.args.v (le_trans g.met.S.Sample.few_bits (omega arith)) (rw (← sine) c.size.ensures)
    (rw (← cosine) c.size-2.ensures) c.turn.ensures
