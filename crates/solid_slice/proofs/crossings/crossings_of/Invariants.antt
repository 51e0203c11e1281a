use Rattle.solid_slice.specs.Crossings.{AreCrossings}
use Rattle.solid_slice.proofs.crossings.crossings_of.Given as goal

abbrev pub invariant-loop-number : goal.invariant-loop-number
invariant-loop-number l = AreCrossings l.mesh.points.items l.mesh.faces.items l.fn.height l.number l.ups.items l.downs.items
