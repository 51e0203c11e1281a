-- Corners of faces: corner 3 f + k is corner k of face f, where half edge 3 f + k begins.
--
--   AreOfOneFace faces c d     both are corners of one face
--   AreNeighbors faces c d     two corners at one vertex whose faces have an edge at that vertex in common
use Rattle.std.specs.Prelude.{ℕ, ◌≡◌, ◌≢◌, ◌*◌, ◌/◌, ◌<◌, List, length}
use Rattle.mesh_edges.specs.HalfEdges.{start}

-- both are corners of one face
pub record AreOfOneFace (faces : List (List ℕ)) (c d : ℕ) : Type 0 where
  pub one : c < 3 * length faces
  pub other : d < 3 * length faces
  pub face : c / 3 ≡ d / 3

-- Both are at one vertex, and each face has another corner at one other vertex: the edge between the two is common.
pub record AreNeighbors (faces : List (List ℕ)) (c d : ℕ) : Type 0 where
  pub c_end : ℕ
  pub d_end : ℕ
  pub one : AreOfOneFace faces c c_end
  pub other : AreOfOneFace faces d d_end
  pub same : start faces c ≡ start faces d
  pub same_end : start faces c_end ≡ start faces d_end
  pub differ : start faces c ≢ start faces c_end
