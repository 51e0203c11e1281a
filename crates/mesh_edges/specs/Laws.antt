-- What is said of paired meshes.
--
--   PairedAreClosed   in a paired mesh each directed edge occurs as often as its reverse
use Rattle.std.specs.Prelude.{ℕ, List, All}
use Rattle.mesh.specs.Meshes.{IsFace}
use Rattle.mesh_edges.specs.Edges.{IsBalanced}
use Rattle.mesh_edges.specs.HalfEdges.{ArePaired}

-- in a paired mesh each directed edge occurs as often as its reverse
abbrev pub PairedAreClosed : Type 0
PairedAreClosed = (n : ℕ) (faces : List (List ℕ)) (twins : List ℕ) → All (IsFace n) faces → ArePaired faces twins → IsBalanced faces
