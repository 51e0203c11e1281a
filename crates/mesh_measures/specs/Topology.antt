-- How the faces of a mesh are connected.
--
--   IsTopologyOf points faces t     t has the numbers of non-manifold edges and vertices and of pieces
use Rattle.std.specs.Prelude.{ℕ, ◌<◌, List, length}
use Rattle.geo_sign.specs.Point.{Point}
use Rattle.mesh_edges.specs.Things.{AreSoMany}
use Rattle.mesh_measures.specs.Manifolds.{IsNonManifoldPair, IsManifoldVertex}
use Rattle.mesh_measures.specs.Pieces.{IsFirstOfPiece}
use Rattle.mesh_measures.specs.declared.topology.Topology.{Topology}

-- the numbers of non-manifold edges and vertices and of pieces
pub record IsTopologyOf (points : List Point) (faces : List (List ℕ)) (t : Topology) : Type 0 where
  pub edges : AreSoMany (IsNonManifoldPair faces) t.nonmanifold_edges
  pub vertices : AreSoMany (λ v. (v < length points) × (¬ IsManifoldVertex faces v)) t.nonmanifold_vertices
  pub pieces : AreSoMany (λ f. (f < length faces) × IsFirstOfPiece faces f) t.pieces
