-- The refusals of specs/Refusals.antt.
use mathlib.Core.Path.{refl}
use borrow.Author.Tests.{le-leb, lt-leb, lt-ltb, le-ltb}
use Rattle.box_muller.specs.Sample.{samples_of}
use Rattle.box_muller.specs.Refusals.{Refusals}

pub refusals : Refusals
unfolding samples_of
refusals = record {
  both = λ f. refl;
  two = λ f k v large. rw (samples_of, le-leb _ k large);
  three = λ f k v small large. rw (samples_of, lt-leb _ k small, lt-ltb _ v large);
  none = λ f k v small few. rw (samples_of, lt-leb _ k small, le-ltb _ v few);
  largest = λ f. refl;
  one_more = λ f. refl;
}
