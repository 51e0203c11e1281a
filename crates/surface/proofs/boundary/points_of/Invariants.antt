use Rattle.std.proofs.Common.{◌≡◌, take}
use Rattle.surface.proofs.boundary.points_of.Given as goal

abbrev pub invariant-loop-v : goal.invariant-loop-v
invariant-loop-v l = l.points.items ≡ take l.v l.t.points
