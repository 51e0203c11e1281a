use Rattle.std.proofs.Common.{◌<◌, ◌≤◌}
use Rattle.mesh_edges.specs.Edges.{face_at}
use Rattle.mesh_edges.specs.Things.{AreSoMany}
use Rattle.mesh_measures.specs.Flat.{IsFlat}
use Rattle.mesh_measures.proofs.flat.count_flat.Given as goal

abbrev pub invariant-loop-i : goal.invariant-loop-i
invariant-loop-i l =
    record { few : l.count ≤ l.i; many : AreSoMany (λ f. (f < l.i) × IsFlat l.points (face_at l.faces f)) l.count }
