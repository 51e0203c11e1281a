-- Sides of faces, sorted by their edges.
--
--   face_side faces c d       the side from corner c to corner d
--   side_between faces c d    the side between two corners, that at the smaller vertex first
--   sides_of_face faces f     the three sides of a face
--   side_key s, keys sides, key_at sides i    the numbers of their edges
--   IsSide faces s            s is a side of a face (here not of a cell): an edge as it occurs in this face, between
--                             two of its corners
--   AreSides faces sides      all sides of the faces, sorted
--   IsFirstOfEdge sides i     no side before side i has its edge
--   IsOddSide sides i         side i is the first with its edge, and the number of sides with that edge is not two
use Rattle.std.specs.Prelude.{ℕ, ◌≡◌, ◌≢◌, ◌+◌, ◌*◌, ◌<◌, ◌^◌, ◌==◌, nat_lt, if◌then◌else◌, List, [], ◌∷◌, map, slice_index, count_by, All, Contains}
use Rattle.std.specs.List.Sorted.{IsNonDecreasingBy}
use Rattle.mesh_edges.specs.Pairs.{key_of}
use Rattle.mesh_edges.specs.HalfEdges.{start}
use Rattle.mesh_measures.specs.Corners.{AreOfOneFace}
use Rattle.mesh_measures.specs.Manifolds.{faces_at_edge}
use Rattle.mesh_measures.specs.declared.sides.Side.{Side}

-- the side from corner c to corner d
abbrev pub face_side : List (List ℕ) → (c d : ℕ) → Side
face_side faces c d = record { key = key_of (start faces c) (start faces d); low = c; high = d }

-- that at the smaller vertex first
abbrev pub side_between : List (List ℕ) → (c d : ℕ) → Side
side_between faces c d = if nat_lt (start faces c) (start faces d) then face_side faces c d else face_side faces d c

-- the three sides of a face
abbrev pub sides_of_face : List (List ℕ) → (f : ℕ) → List Side
sides_of_face faces f =
    side_between faces (3 * f) (3 * f + 1)
    ∷ (side_between faces (3 * f + 1) (3 * f + 2) ∷ (side_between faces (3 * f + 2) (3 * f) ∷ []))

abbrev pub side_key : Side → ℕ
side_key s = s.key

abbrev pub keys : List Side → List ℕ
keys sides = map side_key sides

abbrev pub key_at : List Side → ℕ → ℕ
key_at sides i = slice_index (keys sides) i

-- between two corners of a face, that at the smaller vertex first
pub record IsSide (faces : List (List ℕ)) (s : Side) : Type 0 where
  pub ends : AreOfOneFace faces s.low s.high
  pub rising : start faces s.low < start faces s.high
  pub small : start faces s.high < 2 ^ 32
  pub key : s.key ≡ key_of (start faces s.low) (start faces s.high)

-- All sides of the faces, sorted. An edge is that of as many sides as faces have it.
pub record AreSides (faces : List (List ℕ)) (sides : List Side) : Type 0 where
  pub each : All (IsSide faces) sides
  pub all : (c d : ℕ) → AreOfOneFace faces c d → start faces c < start faces d → Contains sides (face_side faces c d)
  pub counts :
      (u v : ℕ) → u < v → v < 2 ^ 32 → count_by (λ s. side_key s == key_of u v) sides ≡ faces_at_edge faces u v
  pub sorted : IsNonDecreasingBy side_key sides

-- no side before has its edge
abbrev pub IsFirstOfEdge : List Side → ℕ → Type 0
IsFirstOfEdge sides i = (j : ℕ) → j < i → key_at sides j ≢ key_at sides i

-- and other than two sides have it
pub record IsOddSide (sides : List Side) (i : ℕ) : Type 0 where
  pub first : IsFirstOfEdge sides i
  pub odd : count_by (λ s. side_key s == key_at sides i) sides ≢ 2
