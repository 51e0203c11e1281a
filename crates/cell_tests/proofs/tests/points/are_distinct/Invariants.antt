use Rattle.std.proofs.Common.{ℕ, ◌≡◌, ◌<◌, get_or}
use Rattle.geo_sign.specs.Point.{origin}
use Rattle.cell_tests.proofs.tests.points.are_distinct.Given as goal

abbrev pub invariant-loop-k : goal.invariant-loop-k
invariant-loop-k l = (j m : ℕ) → j < m → m < l.k → get_or l.points j origin ≡ get_or l.points m origin → ⊥
