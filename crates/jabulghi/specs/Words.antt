-- A generator record as the ten words of 32 bits that a maker keeps: a's s0, s1, s2, b's, the count's low and high word, and the note: whether a
-- request is open (not 0), and for how many pairs.
use Rattle.std.specs.Prelude.{ℕ, ◌+◌, ◌*◌, ◌/◌, ◌%◌, ◌^◌, ◌≡◌, List, [], ◌∷◌, get_or}
use Rattle.std.proofs.Common.{div-add-mod'}
use Rattle.streams.specs.declared.Generator.{Generator}

abbrev pub words_of : Generator → List ℕ
words_of g =
    g.a.s0 ∷ g.a.s1 ∷ g.a.s2 ∷ g.b.s0 ∷ g.b.s1 ∷ g.b.s2 ∷ g.count % 2 ^ 32 ∷ g.count / 2 ^ 32 ∷ g.waiting ∷ g.asked ∷ []

abbrev pub generator_of : List ℕ → Generator
generator_of l =
    record {
      a = record { s0 = get_or l 0 0; s1 = get_or l 1 0; s2 = get_or l 2 0 };
      b = record { s0 = get_or l 3 0; s1 = get_or l 4 0; s2 = get_or l 5 0 };
      count = get_or l 7 0 * 2 ^ 32 + get_or l 6 0;
      waiting = get_or l 8 0;
      asked = get_or l 9 0;
    }

-- What a call leaves in the ten words is, to the next call, the record that it returned.
pub kept : (g : Generator) → generator_of (words_of g) ≡ g
kept g = λ i. record { a = g.a; b = g.b; count = div-add-mod' g.count (2 ^ 32) i; waiting = g.waiting; asked = g.asked }
