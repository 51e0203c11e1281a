-- Pieces of a mesh.
--
--   IsUnion twins kept     a face is marked exactly if the faces of the twins of its half edges are marked
--   kept_faces faces kept  the marked faces, in their order
--   IsAcross twins f g     a half edge of face f has its twin in face g
--   AreOfOnePiece twins f g   faces are connected across edges
--   IsFirstFace twins f    no face before f is of its piece
--   AreLargestPieces twins count kept most   the marked faces are those of the largest pieces, at most `most`
--   ArePieces most points faces new_points new_faces   the new mesh is made of whole pieces of the old one
use Rattle.std.specs.Prelude.{ℕ, ◌≡◌, ◌<◌, ◌≤◌, ◌/◌, Bool, true, false, List, length, map, slice_index, slice_index_or}
use Rattle.geo_sign.specs.Point.{Point}
use Rattle.mesh.specs.Marks.{marked}
use Rattle.mesh_edges.specs.Edges.{face_at}
use Rattle.mesh_edges.specs.Paths.{ArePath}
use Rattle.mesh_edges.specs.Things.{AreSoMany}
use Rattle.mesh_edges.specs.HalfEdges.{ArePaired}
use Rattle.mesh_pieces.specs.Copies.{IsCopy, IsAscending, IsCornerOf}

-- a face is marked exactly where the faces across its edges are
abbrev pub IsUnion : (twins : List ℕ) (kept : List Bool) → Type 0
IsUnion twins kept =
    (h : ℕ) → h < length twins
    → slice_index_or kept (h / 3) false ≡ slice_index_or kept (slice_index twins h / 3) false

-- the marked faces, in their order
abbrev pub kept_faces : List (List ℕ) → List Bool → List (List ℕ)
kept_faces faces kept = map (face_at faces) (marked kept (length faces))

-- a half edge of face f has its twin in face g
pub record IsAcross (twins : List ℕ) (f g : ℕ) : Type 0 where
  pub h : ℕ
  pub within : h < length twins
  pub one : h / 3 ≡ f
  pub other : slice_index twins h / 3 ≡ g

-- faces that are connected across edges
abbrev pub AreOfOnePiece : (twins : List ℕ) → (f g : ℕ) → Type 0
AreOfOnePiece twins f g = ArePath (IsAcross twins) f g

-- no face before it is of its piece, so each piece has one such face
abbrev pub IsFirstFace : (twins : List ℕ) → ℕ → Type 0
IsFirstFace twins f = (g : ℕ) → g < f → AreOfOnePiece twins g f → ⊥

-- The marked faces are those of at most `most` pieces, and of exactly `most` if some face is not marked. No marked piece has fewer faces
-- than one that is not marked.
pub record AreLargestPieces (twins : List ℕ) (count : ℕ) (kept : List Bool) (most : ℕ) : Type 0 where
  pub number : ℕ
  pub few : number ≤ most
  pub pieces : AreSoMany (λ f. (f < count) × (slice_index_or kept f false ≡ true) × IsFirstFace twins f) number
  pub full : (f : ℕ) → f < count → slice_index_or kept f false ≡ false → number ≡ most
  pub size : ℕ → ℕ
  pub sizes : (f : ℕ) → f < count → AreSoMany (λ k. (k < count) × AreOfOnePiece twins f k) (size f)
  pub largest :
      (f g : ℕ) → f < count → g < count → slice_index_or kept f false ≡ true → slice_index_or kept g false ≡ false
      → size g ≤ size f

-- Some faces are marked so that a face is exactly where those across its edges are: those of the largest pieces. The new mesh has these
-- faces in their order, and the vertices that they have in theirs.
pub record ArePieces (most : ℕ) (points : List Point) (faces : List (List ℕ)) (new_points : List Point)
    (new_faces : List (List ℕ)) : Type 0 where
  pub twins : List ℕ
  pub kept : List Bool
  pub origin : List ℕ
  pub paired : ArePaired faces twins
  pub union : IsUnion twins kept
  pub largest : AreLargestPieces twins (length faces) kept most
  pub copy : IsCopy points (kept_faces faces kept) new_points new_faces origin
  pub order : IsAscending origin
  pub used : (w : ℕ) → w < length origin → (f : ℕ) × IsCornerOf new_faces w f
