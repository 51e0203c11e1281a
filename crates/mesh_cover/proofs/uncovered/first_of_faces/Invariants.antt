use Rattle.std.proofs.Common.{ℕ, ◌<◌}
use Rattle.mesh_edges.specs.Edges.{face_at}
use Rattle.mesh_cover.specs.Covers.{IsFaceCovered}
use Rattle.mesh_cover.proofs.uncovered.first_of_faces.Given as goal

abbrev pub invariant-loop-i : goal.invariant-loop-i
invariant-loop-i l =
    (k : ℕ) → k < l.i → IsFaceCovered l.within l.points l.onto.points.items l.onto.faces.items (face_at l.faces k)
