use Rattle.std.proofs.Common.{◌≡◌, map}
use Rattle.mesh.specs.Meshes.{below, point_at}
use Rattle.mesh.specs.Marks.{marked, number_among}
use Rattle.mesh.proofs.facets.numbering_of.Given as goal

abbrev pub invariant-loop-v : goal.invariant-loop-v
invariant-loop-v l =
    (l.points.items ≡ map (point_at l.places) (marked l.marks l.v)) × (l.numbers.items ≡ map (number_among l.marks) (below l.v))
