-- `apply_each`: the words done, and the matrix at each one left, are the matrix at every word.
use Rattle.std.proofs.Common.{◌≡◌, ◌++◌, map, take, drop}
use Rattle.bit_matrix.specs.Matrices.{applied}
use Rattle.bit_matrix.proofs.Matrix.apply_each.Given as goal

abbrev pub invariant-loop-word : goal.invariant-loop-word
invariant-loop-word l =
    take l.word-index l.words ++ map (applied l.self.columns) (drop l.word-index l.words)
    ≡ map (applied l.self.columns) l.initial.words
