-- Meshes whose vertices are copies of old ones.
--
--   IsCopy points faces new_points new_faces origin   vertex w of the new mesh is a copy of the old vertex whose number
--                                                     is entry w of the list `origin`
--   IsAscending xs, IsNonDescending xs                each number is above, or not below, the one before it
--   IsCornerOf faces w f                              face number f has the vertex w
use Rattle.std.specs.Prelude.{ℕ, ◌≡◌, ◌+◌, ◌<◌, ◌≤◌, true, List, [], length, map, slice_index, slice_index_or, All}
use Rattle.geo_sign.specs.Point.{Point}
use Rattle.mesh.specs.Meshes.{point_at, is_vertex_of}

-- Each original is a vertex of the old mesh. Each new vertex stands where its original stands, and the new faces, with originals in the
-- place of copies, are the old ones.
pub record IsCopy (points : List Point) (faces : List (List ℕ)) (new_points : List Point) (new_faces : List (List ℕ))
    (origin : List ℕ) : Type 0 where
  pub originals : All (λ v. v < length points) origin
  pub places : new_points ≡ map (point_at points) origin
  pub corners : map (map (slice_index origin)) new_faces ≡ faces

-- each number is above the one before it
abbrev pub IsAscending : List ℕ → Type 0
IsAscending xs = (k : ℕ) → k + 1 < length xs → slice_index xs k < slice_index xs (k + 1)

-- no number is below the one before it
abbrev pub IsNonDescending : List ℕ → Type 0
IsNonDescending xs = (k : ℕ) → k + 1 < length xs → slice_index xs k ≤ slice_index xs (k + 1)

-- face number f has the vertex w
pub record IsCornerOf (faces : List (List ℕ)) (w f : ℕ) : Type 0 where
  pub within : f < length faces
  pub corner : is_vertex_of w (slice_index_or faces f []) ≡ true
