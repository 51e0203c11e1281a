use Rattle.std.proofs.Common.{ℕ, ◌<◌, [], get_or}
use Rattle.mesh.specs.Meshes.{IsFace}
use Rattle.mesh_simplify.proofs.valid.are_faces.Given as goal

abbrev pub invariant-loop-face : goal.invariant-loop-face
invariant-loop-face l = (k : ℕ) → k < l.face-index → IsFace l.count (get_or l.faces k [])
