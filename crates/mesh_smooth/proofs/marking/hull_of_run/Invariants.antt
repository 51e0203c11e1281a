use Rattle.std.proofs.Common.{ℕ, ◌<◌, ◌≤◌}
use Rattle.mesh_edges.specs.Edges.{face_at}
use Rattle.mesh_flips.specs.Fields.{HoldsFace}
use Rattle.mesh_smooth.proofs.marking.hull_of_run.Given as goal

abbrev pub invariant-loop-face : goal.invariant-loop-face
invariant-loop-face l = (k : ℕ) → l.from ≤ k → k < l.face → HoldsFace l.points l.hull (face_at l.faces k)
