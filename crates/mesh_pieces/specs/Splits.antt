-- Meshes whose vertices are split.
--
--   AreSingle faces      no directed edge occurs twice
--   HasTwoFaces faces    if a face has a directed edge, no other face has it, and exactly one face has its reverse
--   IsSplit points faces new_points new_faces   vertices are split so that each edge has two faces
--   SplitsHaveTwoFaces   where no directed edge occurs twice in a closed mesh, each edge has two faces
--                        the number of each edge (`key_of`) is in the list `more` as often as in `keys`, and once more
--                        if the face has the edge
use Rattle.std.specs.Prelude.{ℕ, ◌≡◌, ◌<◌, ◌≤◌, List, length}
use Rattle.geo_sign.specs.Point.{Point}
use Rattle.mesh_edges.specs.Edges.{has_edge, faces_with_edge, IsBalanced}
use Rattle.mesh_pieces.specs.Copies.{IsCopy, IsNonDescending, IsCornerOf}

-- no directed edge occurs twice
abbrev pub AreSingle : List (List ℕ) → Type 0
AreSingle faces = (u v : ℕ) → faces_with_edge u v faces ≤ 1

-- an edge that a face has, in either direction, has one face on each side
abbrev pub HasTwoFaces : List (List ℕ) → Type 0
HasTwoFaces faces =
    (u v : ℕ) → 1 ≤ faces_with_edge u v faces → (faces_with_edge u v faces ≡ 1) × (faces_with_edge v u faces ≡ 1)

-- Vertices became several copies, which stand in the order of their originals, and each has a face. The mesh is closed, and no directed
-- edge occurs twice.
pub record IsSplit (points : List Point) (faces : List (List ℕ)) (new_points : List Point) (new_faces : List (List ℕ))
    : Type 0 where
  pub origin : List ℕ
  pub copy : IsCopy points faces new_points new_faces origin
  pub order : IsNonDescending origin
  pub once : AreSingle new_faces
  pub closed : IsBalanced new_faces
  pub used : (w : ℕ) → w < length origin → (f : ℕ) × IsCornerOf new_faces w f

-- where no directed edge occurs twice in a closed mesh, each edge has two faces
abbrev pub SplitsHaveTwoFaces : Type 0
SplitsHaveTwoFaces = (faces : List (List ℕ)) → AreSingle faces → IsBalanced faces → HasTwoFaces faces
