-- All fit streams lie on one cycle: each register comes to all of its 2^k - 1 contents above its minimum, and the three do so together.
use mathlib.Core.Path.{◌≡◌, sym, ap, ◌∙◌}
use Prim.Native.Nat.{ℕ, suc, ◌+◌, ◌-◌, ◌*◌, ◌/◌, ◌%◌, ◌^◌, ◌≤◌, ◌<◌}
use native.Mathlib.Nat.{mul_comm, mul_assoc, mul_left_comm, add-mul, mul-add, suc-add, mul-mod_left, mod-eq_of_lt}
use native.Mathlib.Nat.{div-add-mod', le-div_iff_mul-le}
use native.Mathlib.Decide.{dec_le}
use native.Mathlib.Omega.{arith}
use lib.Pow.{pow_pos, shr_lt, shr-shr}
use Rattle.bit_matrix.specs.Matrices.{repeat}
use Rattle.bit_matrix.proofs.Theorems.{repeat_add}
use Rattle.streams.specs.declared.Stream.{Stream}
use Rattle.streams.specs.Streams.{step, advance}
use Rattle.streams.specs.Recurrence.{top, InRange, Minima}
use Rattle.streams.proofs.Register.{reads_top}
use Rattle.period.specs.Cycle.{cycle}
use Rattle.period.proofs.Divisors.{Coprime}
use Rattle.period.proofs.Registers.{Tested, tested, kept, last_step, only_after, after_each}
use Rattle.period.proofs.Streams.{first_two_coprime, third_coprime, alone0, alone1, alone2, stream_after_each}
use Rattle.period.proofs.Counting.{Different, all_met}

ruleset expand = (add-mul, mul-add, mul_assoc, mul_comm, mul_left_comm)

-- ---- One register

-- equal numbers without their lowest 32 - k bits have the same next step
step_same : {k q s N : ℕ} → Tested k q s N → (x y : ℕ) → x < 2 ^ 32 → y < 2 ^ 32 → x / 2 ^ (32 - k) ≡ y / 2 ^ (32 - k)
    → step k q s x ≡ step k q s y
unfolding top
step_same {k} R x y hx hy same = reads_top R.params x y hx hy bits
  where
    bits : (m : ℕ) → m < k → top x m ≡ top y m
    bits m h =
        let width = R.params.k_width in
        let place : 32 - k + (k - 1 - m) ≡ 31 - m = omega arith in
        rw (← place, ← shr-shr x (32 - k) (k - 1 - m), ← shr-shr y (32 - k) (k - 1 - m), same)

module _ {k q s : ℕ} (R : Tested k q s (2 ^ k - 1)) (x : ℕ) (hx : x < 2 ^ 32) (least : 2 ^ (32 - k) ≤ x) where
  -- the top k bits after t draws, as a number from 0 to 2^k - 2
  place_of : ℕ → ℕ
  place_of y = y / 2 ^ (32 - k) - 1

  place_below : (y : ℕ) → y < 2 ^ 32 → 2 ^ (32 - k) ≤ y → (1 ≤ y / 2 ^ (32 - k)) × (place_of y < 2 ^ k - 1)
  unfolding place_of
  place_below y hy hl =
      let width = R.params.k_width in
      let all : k + (32 - k) ≡ 32 = omega arith in
      let high : y / 2 ^ (32 - k) < 2 ^ k = shr_lt k (32 - k) (rw all hy) in
      let low : 1 ≤ y / 2 ^ (32 - k) = (le-div_iff_mul-le (pow_pos (32 - k))).1 (omega arith) in
      (low, omega arith)

  -- two contents with one place have the same next step
  same_next : (y z : ℕ) → y < 2 ^ 32 → 2 ^ (32 - k) ≤ y → z < 2 ^ 32 → 2 ^ (32 - k) ≤ z → place_of y ≡ place_of z → step k q s y ≡ step k q s z
  unfolding place_of
  same_next y z hy ly hz lz e =
      step_same R y z hy hz (omega (arith, (place_below y hy ly).0, (place_below z hz lz).0))

  -- the contents of 2^k - 1 draws are all different,
  all_different : Different (λ t. place_of (repeat (step k q s) t x)) (2 ^ k - 1)
  all_different i j hi hj e = by_order (dec_le i j) (dec_le j i)
    where
      later : (i j : ℕ) → i < j → j < 2 ^ k - 1 → place_of (repeat (step k q s) i x) ≡ place_of (repeat (step k q s) j x) → ⊥
      later i j behind hj e =
          let (ri, li) = kept R x hx least i in
          let (rj, lj) = kept R x hx least j in
          let (rs, ls) = kept R x hx least (suc i) in
          let next : repeat (step k q s) (suc i) x ≡ repeat (step k q s) (suc j) x
          = last_step (step k q s) i x ∙ same_next _ _ ri li rj lj e ∙ sym (last_step (step k q s) j x) in
          let far : suc i + (j - i) ≡ suc j = omega arith in
          let multiple : (j - i) % (2 ^ k - 1) ≡ 0
          = only_after R (repeat (step k q s) (suc i) x) rs ls (j - i) (repeat_add (step k q s) (suc i) (j - i) x ∙ rw far (sym next)) in
          let small : j - i < 2 ^ k - 1 = omega arith in
          omega (arith, rw (mod-eq_of_lt small) at multiple)

      by_order : Dec (i ≤ j) → Dec (j ≤ i) → i ≡ j
      by_order (yes l) (yes l') = omega arith
      by_order (yes l) (no n) = absurd (later i j (omega arith) hj e)
      by_order (no n) d = absurd (later j i (omega arith) hi (sym e))

  -- so the register comes to any other's next step.
  register_meets : (y : ℕ) → y < 2 ^ 32 → 2 ^ (32 - k) ≤ y → (t : ℕ) × (repeat (step k q s) (suc t) x ≡ step k q s y)
  register_meets y hy ly =
      let (t, h, e)
      = all_met (2 ^ k - 1) (place_of y) (λ t. place_of (repeat (step k q s) t x)) all_different
      (λ i h. (place_below (repeat (step k q s) i x) (kept R x hx least i).0 (kept R x hx least i).1).1) (place_below y hy ly).1 in
      let (rt, lt) = kept R x hx least t in
      (t, last_step (step k q s) t x ∙ same_next (repeat (step k q s) t x) y rt lt hy ly e)

  -- It does so again after each multiple of its period.
  meets_again : (t c : ℕ) → repeat (step k q s) (suc (t + c * (2 ^ k - 1))) x ≡ repeat (step k q s) (suc t) x
  meets_again t c = rw (← suc-add t (c * (2 ^ k - 1))) (after_each R x hx least t (c * (2 ^ k - 1)) (mul-mod_left c (2 ^ k - 1)))

-- ---- The three together

-- a number that is t mod a and t' mod b + 1, written with its quotients
meeting : (a b t t' : ℕ) → Coprime a (b + 1) → (j : ℕ) × (i : ℕ) × (t + j * a ≡ t' + i * (b + 1))
meeting a b t t' (x, y, e) = (x * w, t + y * w, sum)
  where
    w : ℕ
    w = t' + t * b

    sum : t + x * w * a ≡ t' + (t + y * w) * (b + 1)
    sum =
        let product : x * a * w ≡ (y * (b + 1) + 1) * w = ap (λ (z : ℕ). z * w) e in
        let order : x * w * a ≡ x * a * w = simp expand in
        let spread : (y * (b + 1) + 1) * w ≡ y * w * b + y * w + (t' + t * b) = simp expand (omega arith) in
        let other : (t + y * w) * (b + 1) ≡ t * b + t + (y * w * b + y * w) = simp expand (omega arith) in
        rw (order, product, spread, other) (omega arith)

stream_meets : (u v : Stream) → InRange u → Minima u → InRange v → Minima v → (n : ℕ) × (repeat advance (suc n) u ≡ advance v)
unfolding advance
stream_meets u v r m r' m' =
    let (t₀, e₀) = register_meets tested.0 u.s0 r.s0_range m.s0_least v.s0 r'.s0_range m'.s0_least in
    let (t₁, e₁) = register_meets tested.1 u.s1 r.s1_range m.s1_least v.s1 r'.s1_range m'.s1_least in
    let (t₂, e₂) = register_meets tested.2 u.s2 r.s2_range m.s2_least v.s2 r'.s2_range m'.s2_least in
    let (j, i, first) = meeting (2 ^ 31 - 1) (2 ^ 29 - 2) t₀ t₁ first_two_coprime in
    let (j', i', second)
    = meeting ((2 ^ 31 - 1) * (2 ^ 29 - 1)) (2 ^ 28 - 2) (t₀ + j * (2 ^ 31 - 1)) t₂ third_coprime in
    let n : ℕ = t₀ + (j + j' * (2 ^ 29 - 1)) * (2 ^ 31 - 1) in
    let n₁ : n ≡ t₁ + (i + j' * (2 ^ 31 - 1)) * (2 ^ 29 - 1) = omega arith in
    let n₂ : n ≡ t₂ + i' * (2 ^ 28 - 1) = omega arith in (
      n,
      λ d.
          record {
            s0 = (alone0 (suc n) u ∙ meets_again tested.0 u.s0 r.s0_range m.s0_least t₀ (j + j' * (2 ^ 29 - 1)) ∙ e₀) d;
            s1 = (alone1 (suc n) u ∙ rw n₁ (meets_again tested.1 u.s1 r.s1_range m.s1_least t₁ (i + j' * (2 ^ 31 - 1))) ∙ e₁) d;
            s2 = (alone2 (suc n) u ∙ rw n₂ (meets_again tested.2 u.s2 r.s2_range m.s2_least t₂ i') ∙ e₂) d;
          },
    )

-- From any fit stream, less than a cycle of draws leads to any other's next draw.
pub one_cycle : (u v : Stream) → InRange u → Minima u → InRange v → Minima v → (n : ℕ) × (n < cycle) × (repeat advance (suc n) u ≡ advance v)
unfolding cycle
one_cycle u v r m r' m' =
    let (n, e) = stream_meets u v r m r' m' in
    let whole : suc (n % cycle) + n / cycle * cycle ≡ suc n = omega (arith, div-add-mod' n cycle) in
    let once : repeat advance (suc n) u ≡ repeat advance (suc (n % cycle)) u
    = rw whole at (stream_after_each u r m (n % cycle) (n / cycle * cycle) (mul-mod_left (n / cycle) cycle)) in
    (n % cycle, omega arith, sym once ∙ e)
