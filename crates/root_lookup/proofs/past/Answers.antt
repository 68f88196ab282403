-- `root_lookup::past` meets its contract: a number that is none of the keys is beyond them.
use Prim.Native.Nat.{ℕ, zero, suc, ◌≤◌}
use native.Mathlib.Omega.{arith}
use borrow.Author.Tests.{le-leb, lt-leb}
use Rattle.root_lookup.specs.Private.{NoKey}
use Rattle.root_lookup.proofs.past.Goals as goal

no_key_le : (n x : ℕ) → NoKey n x → n ≤ x
no_key_le zero x none = omega arith
no_key_le (suc n) x (none, other) = omega (arith, no_key_le n x none, other)

pub returns : goal.returns
returns c =
    let n : ℕ = c.args.n in
    let past : 128 ≤ n = no_key_le 128 n c.requires in
    rw (le-leb 32 n (omega (arith, past)), lt-leb n 127 (omega (arith, past)))
