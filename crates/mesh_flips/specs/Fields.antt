-- Boxes of faces.
--
--   HoldsFace points h f            a box contains the corners of a face
--   HoldsQuad points h q            a box contains the corners of a quad
--   AreHullsOf points hulls q       boxes contain the new faces of a quad: one box for each face, and one that contains
--                                   both
--   HasBox points faces tree i      a box of face number i is inserted at i
--   IsTreeOf points faces tree      the tree has a box of each face at the face's number
--   IsReady points faces tree       it has, and each face is a triangle
use Rattle.std.specs.Prelude.{ℕ, ◌<◌, ◌≤◌, ◌*◌, List, [], ◌∷◌, length, All}
use Rattle.geo_sign.specs.Point.{Point}
use Rattle.mesh.specs.Meshes.{point_at}
use Rattle.mesh_edges.specs.Edges.{face_at}
use Rattle.triangles.specs.Hulls.{HoldsPoint}
use Rattle.triangles.specs.Trees.{IsInserted}
use Rattle.triangles.specs.declared.hull.Hull.{Hull}
use Rattle.triangles.specs.declared.tree.HullTree.{HullTree}
use Rattle.mesh_flips.specs.Turns.{IsTriangle}
use Rattle.mesh_flips.specs.declared.quad.Quad.{Quad}
use Rattle.mesh_flips.specs.declared.clear.QuadHulls.{QuadHulls}

-- the corners of a face
abbrev pub HoldsFace : List Point → Hull → List ℕ → Type 0
HoldsFace points h (a ∷ b ∷ c ∷ []) =
    HoldsPoint h (point_at points a) × HoldsPoint h (point_at points b) × HoldsPoint h (point_at points c)
HoldsFace points h _ = ⊥

-- those of a quad
pub record HoldsQuad (points : List Point) (h : Hull) (q : Quad) : Type 0 where
  pub a : HoldsPoint h (point_at points q.a)
  pub b : HoldsPoint h (point_at points q.b)
  pub c : HoldsPoint h (point_at points q.c)
  pub d : HoldsPoint h (point_at points q.d)

-- boxes contain the new faces of a quad, and one both
pub record AreHullsOf (points : List Point) (hulls : QuadHulls) (q : Quad) : Type 0 where
  pub first : HoldsFace points hulls.first (q.a ∷ q.d ∷ q.c ∷ [])
  pub second : HoldsFace points hulls.second (q.d ∷ q.b ∷ q.c ∷ [])
  pub both : HoldsQuad points hulls.both q

-- a box of the face is inserted at its number
abbrev pub HasBox : List Point → List (List ℕ) → HullTree → ℕ → Type 0
HasBox points faces tree i = (h : Hull) × HoldsFace points h (face_at faces i) × IsInserted tree i h

-- the tree has room and a box for each face
pub record IsTreeOf (points : List Point) (faces : List (List ℕ)) (tree : HullTree) : Type 0 where
  pub room : length faces ≤ 4 * tree.leaves
  pub insert : (i : ℕ) → i < length faces → HasBox points faces tree i

-- the tree has them, and each face is a triangle among the points
pub record IsReady (points : List Point) (faces : List (List ℕ)) (tree : HullTree) : Type 0 where
  pub each : All (IsTriangle (length points)) faces
  pub boxes : IsTreeOf points faces tree
