use Rattle.std.proofs.Common.{map}
use Rattle.std.specs.List.{All}
use Rattle.solid_slice.specs.Cuts.{IsStep}
use Rattle.solid_slice.specs.Loops.{ring_faces}
use Rattle.solid_slice.specs.declared.step.Ring.{Ring}
use Rattle.solid_slice.proofs.AllRings.{AreRings}
use Rattle.solid_slice.proofs.rings.loops_of.Given as goal

abbrev pub invariant-loop-start : goal.invariant-loop-start
invariant-loop-start l =
    record {
      rings : AreRings l.mesh.points.items l.mesh.faces.items l.fn.height l.next l.fn.visited l.visited
          (map ring_faces l.rings.items) l.start;
      points : All (λ (ring : Ring). All (IsStep l.mesh.points.items l.mesh.faces.items l.fn.height) ring.steps.items)
          l.rings.items;
    }
