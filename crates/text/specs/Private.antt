-- For private functions; no public contract cites these.
use Rattle.std.specs.Prelude.{ℕ, ◌≡◌, length, drop}
use Rattle.text.specs.Fields.{decimal}
use Rattle.text.specs.declared.digits.Digits.{Digits}

-- the digits of n, from an index of twenty bytes on
pub record SpelledIn (n : ℕ) (r : Digits) : Type 0 where
  pub digits : drop r.from r.bytes ≡ decimal n
  pub size : length r.bytes ≡ 20
