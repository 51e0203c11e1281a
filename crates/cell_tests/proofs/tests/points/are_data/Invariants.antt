use Rattle.std.proofs.Common.{ℕ, ◌<◌, get_or}
use Rattle.geo_sign.specs.Point.{origin, IsWithin}
use Rattle.geo_sign.specs.declared.point.TheConstants.{DATA_LIMIT}
use Rattle.cell_tests.proofs.tests.points.are_data.Given as goal

abbrev pub invariant-loop-i : goal.invariant-loop-i
invariant-loop-i l = (k : ℕ) → k < l.i → IsWithin DATA_LIMIT (get_or l.points k origin)
