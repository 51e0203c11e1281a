-- Edges and vertices at which a mesh is a surface without border.
--
--   faces_at_edge faces u v           how many faces have the edge between two vertices, in either direction
--   IsNonManifoldEdge faces u v       some face has the edge between u and v, and the number of faces that have it is
--                                     not two
--   IsNonManifoldPair faces e         a pair of vertices, the smaller first, whose edge is non-manifold
--   IsCornerAt faces v c              a corner of a face is at the vertex v
--   IsManifoldVertex faces v          the faces at v are one cycle: each edge at v has two of them, and they are connected by edges at v
use Rattle.std.specs.Prelude.{ℕ, ◌≡◌, ◌≢◌, ◌*◌, ◌+◌, ◌<◌, ◌≤◌, List, length}
use Rattle.mesh_edges.specs.Edges.{faces_with_edge}
use Rattle.mesh_edges.specs.HalfEdges.{start}
use Rattle.mesh_edges.specs.Paths.{ArePath}
use Rattle.mesh_measures.specs.Corners.{AreNeighbors}

-- how many faces have the edge between two vertices, in either direction
abbrev pub faces_at_edge : List (List ℕ) → (u v : ℕ) → ℕ
faces_at_edge faces u v = faces_with_edge u v faces + faces_with_edge v u faces

-- some face has it, and other than two do
abbrev pub IsNonManifoldEdge : List (List ℕ) → (u v : ℕ) → Type 0
IsNonManifoldEdge faces u v = (1 ≤ faces_at_edge faces u v) × (faces_at_edge faces u v ≢ 2)

-- an edge is a pair of vertices, the smaller first
abbrev pub IsNonManifoldPair : List (List ℕ) → ℕ × ℕ → Type 0
IsNonManifoldPair faces e = (e.0 < e.1) × IsNonManifoldEdge faces e.0 e.1

-- a corner of a face is at the vertex v
abbrev pub IsCornerAt : List (List ℕ) → (v c : ℕ) → Type 0
IsCornerAt faces v c = (c < 3 * length faces) × (start faces c ≡ v)

-- Each edge at v has two faces, and the faces at v are connected by edges at v. A vertex without faces is one too.
pub record IsManifoldVertex (faces : List (List ℕ)) (v : ℕ) : Type 0 where
  pub edges : (w : ℕ) → w ≢ v → IsNonManifoldEdge faces v w → ⊥
  pub umbrella : (c d : ℕ) → IsCornerAt faces v c → IsCornerAt faces v d → ArePath (AreNeighbors faces) c d
