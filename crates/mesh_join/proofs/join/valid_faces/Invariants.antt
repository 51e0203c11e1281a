use Rattle.std.specs.List.{All}
use Rattle.mesh.specs.Meshes.{IsFace}
use Rattle.mesh_join.proofs.join.valid_faces.Given as goal

abbrev pub invariant-loop-face : goal.invariant-loop-face
invariant-loop-face l = All (IsFace l.n) l.faces.items
