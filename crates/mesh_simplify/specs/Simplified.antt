-- Simplified meshes.
--
--   IsVertexMap moves from old_points points   the vertices come from some of the old ones, in their order, and are where these were, unless
--                                          vertices move
--   IsAtOldPlace old_points points from v   a vertex is where the old one of its number was
--   IsOldFace old_points points from old_faces f   a face is an old one, and its corners are where they were
--   AreBothOld old_points points from old_faces f g   two faces are
--   HaveSameVertices f g                   each vertex of a face is one of another
--   AreDistinct faces                      no two faces have the same vertices
--   AreApartOrKept old_points points faces from old_faces i j   two faces are apart, or both are old ones
--   IsSimplified moves within old_points old_faces points faces   a mesh is simplified, so that old corners are at most `within` from it
--   IsNearIfAsked asked within ..   if that is asked, each point of each of two meshes is at most `within` from the other
--   ExplainsSimplify faces error           what an error says of the faces
use Rattle.std.specs.Prelude.{ℕ, ◌≡◌, ◌<◌, ◌⊎◌, ⊤, Bool, true, false, List, length, map, slice_index, All, AllPairs, Contains}
use Rattle.geo_sign.specs.Point.{Point}
use Rattle.mesh.specs.Meshes.{point_at, is_vertex_of}
use Rattle.mesh_edges.specs.Edges.{face_at, IsBalanced, IsFirstUnbalanced}
use Rattle.mesh_pieces.specs.Splits.{AreSingle}
use Rattle.triangles.specs.Gaps.{AreFacesApart}
use Rattle.mesh_reach.specs.Reached.{AreReached}
use Rattle.mesh_cover.specs.Covers.{AreWithinEachOther}
use Rattle.mesh_simplify.specs.declared.whole.SimplifyError.{SimplifyError}
use Rattle.mesh_simplify.specs.declared.whole.SimplifyError.TheVariants.{NotClosed, NoMemory}

-- `from` has the old number of each vertex. The numbers ascend, so no two vertices have the same one. Vertices that do not move are where
-- the old ones of these numbers were.
pub record IsVertexMap (moves : Bool) (from : List ℕ) (old_points points : List Point) : Type 0 where
  pub within : All (λ v. v < length old_points) from
  pub rising : AllPairs (λ u v. u < v) from
  pub count : length points ≡ length from
  pub places : moves ≡ false → points ≡ map (point_at old_points) from

-- a vertex is where the old one of its number was
abbrev pub IsAtOldPlace : (old_points points : List Point) → (from : List ℕ) → ℕ → Type 0
IsAtOldPlace old_points points from v = point_at points v ≡ point_at old_points (slice_index from v)

-- by the old numbers of its vertices, if no corner has moved
abbrev pub IsOldFace : (old_points points : List Point) → (from : List ℕ) → (old_faces : List (List ℕ)) → List ℕ → Type 0
IsOldFace old_points points from old_faces f =
    Contains old_faces (map (slice_index from) f) × All (IsAtOldPlace old_points points from) f

-- both are old ones
abbrev pub AreBothOld : (old_points points : List Point) → (from : List ℕ) → (old_faces : List (List ℕ)) → (f g : List ℕ) → Type 0
AreBothOld old_points points from old_faces f g =
    IsOldFace old_points points from old_faces f × IsOldFace old_points points from old_faces g

-- as faces have three distinct vertices, these are the same three
abbrev pub HaveSameVertices : (f g : List ℕ) → Type 0
HaveSameVertices f g = All (λ v. is_vertex_of v g ≡ true) f

-- no two faces have the same vertices
abbrev pub AreDistinct : List (List ℕ) → Type 0
AreDistinct faces = (i j : ℕ) → i < j → j < length faces → ¬ HaveSameVertices (face_at faces i) (face_at faces j)

-- two faces share no more than common corners and edges, or both are old ones
abbrev pub AreApartOrKept : (old_points points : List Point) → List (List ℕ) → (from : List ℕ) → (old_faces : List (List ℕ)) → (i j : ℕ)
    → Type 0
AreApartOrKept old_points points faces from old_faces i j =
    AreFacesApart points (face_at faces i) (face_at faces j)
    ⊎ AreBothOld old_points points from old_faces (face_at faces i) (face_at faces j)

-- The vertices come from some of the old ones, and are where these were unless vertices move. Each directed edge occurs as often as its
-- reverse, and none occurs twice if none did before. No two faces have the same vertices if no two did before. Each corner of an old face
-- is at most `within` from a point of a face. Two faces are apart, or both are old ones.
pub record IsSimplified (moves : Bool) (within : ℕ) (old_points : List Point) (old_faces : List (List ℕ)) (points : List Point)
    (faces : List (List ℕ)) : Type 0 where
  pub from : List ℕ
  pub vertices : IsVertexMap moves from old_points points
  pub closed : IsBalanced faces
  pub single : AreSingle old_faces → AreSingle faces
  pub distinct : AreDistinct old_faces → AreDistinct faces
  pub reached : AreReached 1 within old_points old_faces points faces
  pub apart : (i j : ℕ) → i < j → j < length faces → AreApartOrKept old_points points faces from old_faces i j

-- each point of a face of either mesh is near a face of the other, if that is asked
abbrev pub IsNearIfAsked : (asked : Bool) → (within : ℕ) → (old_points : List Point) → (old_faces : List (List ℕ)) → (points : List Point)
    → (faces : List (List ℕ)) → Type 0
IsNearIfAsked asked within old_points old_faces points faces = asked ≡ true → AreWithinEachOther within old_points old_faces points faces

-- the first edge that is not balanced; out of memory says nothing of the faces
abbrev pub ExplainsSimplify : List (List ℕ) → SimplifyError → Type 0
ExplainsSimplify faces (NotClosed e) = IsFirstUnbalanced faces e.from e.to e.there e.back
ExplainsSimplify faces NoMemory = ⊤
