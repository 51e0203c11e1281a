use Rattle.std.proofs.Common.{◌≡◌, take, map}
use Rattle.merge.specs.Merging.{distinct_points, index_among}
use Rattle.merge.proofs.merging.merge.Given as goal

abbrev pub invariant-loop-point : goal.invariant-loop-point
invariant-loop-point l = record {
  points : l.seen.keys ≡ distinct_points (take l.point-index l.points);
  of_row : l.of_row.items ≡ map (index_among (distinct_points (take l.point-index l.points))) (take l.point-index l.points);
}
