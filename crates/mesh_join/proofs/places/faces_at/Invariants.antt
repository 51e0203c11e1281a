use Rattle.std.proofs.Common.{◌≡◌, map, take}
use Rattle.std.specs.List.{All}
use Rattle.mesh.specs.Meshes.{IsFace}
use Rattle.mesh_join.specs.Joins.{face_at_places}
use Rattle.mesh_join.proofs.places.faces_at.Given as goal

abbrev pub invariant-loop-face : goal.invariant-loop-face
invariant-loop-face l =
    record {
      same : l.list.items ≡ map (face_at_places l.numbers) (take l.face-index l.faces);
      valid : All (IsFace l.n) l.list.items;
    }
