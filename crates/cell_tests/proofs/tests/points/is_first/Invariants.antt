use Rattle.std.proofs.Common.{ℕ, ◌≡◌, ◌<◌, get_or}
use Rattle.geo_sign.specs.Point.{origin}
use Rattle.cell_tests.proofs.tests.points.is_first.Given as goal

abbrev pub invariant-loop-j : goal.invariant-loop-j
invariant-loop-j l = (m : ℕ) → m < l.j → get_or l.points m origin ≡ get_or l.points l.k origin → ⊥
