-- Marks of vertices, and the new numbers by these.
--
--   marked marks n          the marked numbers below n, ascending
--   number_among marks v    the new number of a vertex, by marks
use Rattle.std.specs.Prelude.{ℕ, Bool, false, List, length, slice_index_or}
use Rattle.std.specs.Prelude.{filter}
use Rattle.mesh.specs.Meshes.{below}

-- the marked numbers below n, ascending
abbrev pub marked : List Bool → ℕ → List ℕ
marked marks n = filter (λ v. slice_index_or marks v false) (below n)

-- the number of marked numbers below v
abbrev pub number_among : List Bool → ℕ → ℕ
number_among marks v = length (marked marks v)
