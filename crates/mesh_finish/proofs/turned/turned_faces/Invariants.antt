use Rattle.std.proofs.Common.{ℕ, ◌≡◌, ◌<◌, length}
use Rattle.mesh.specs.Meshes.{IsFace}
use Rattle.mesh_flips.specs.Turns.{IsTriangle, IsCycled}
use Rattle.mesh_edges.specs.Edges.{face_at}
use Rattle.mesh_finish.proofs.turned.turned_faces.Given as goal

abbrev pub invariant-loop-face : goal.invariant-loop-face
invariant-loop-face l =
    record {
      count : length l.turned.items ≡ l.face-index;
      each : (k : ℕ) → k < l.face-index → IsCycled (face_at l.faces k) (face_at l.turned.items k);
      faces : (n k : ℕ) → k < l.face-index → IsTriangle n (face_at l.faces k) → IsFace n (face_at l.turned.items k);
    }
