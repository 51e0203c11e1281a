-- Numbers of new vertices.
--
--   IsRoot faces roots p           a root of umbrellas and the vertex at which it begins
--   AreRoots faces roots n list    the roots among the first n half edges
--   HoldsVertex numbers holders h     the half edge h holds the new vertex that has its number
--   IsHolder faces roots numbers origin holders w   the new vertex w has a root, and is a copy of the vertex at which that begins
--   ArePlaced faces roots numbers origin holders    new vertices with their roots, in the order of the old vertices
--   AreVerticesOf faces roots numbers origin holders  each root holds a new vertex
--   AreRenumbered faces roots numbers new           each corner of the new faces has the number of its umbrella
use Rattle.std.specs.Prelude.{ℕ, ◌≡◌, ◌+◌, ◌*◌, ◌<◌, ◌≤◌, List, [], ◌∷◌, length, slice_index, slice_index_or, All, Contains}
use Rattle.mesh_edges.specs.Edges.{face_at}
use Rattle.mesh_edges.specs.declared.pairs.Pair.{Pair}
use Rattle.mesh_edges.specs.HalfEdges.{start}
use Rattle.mesh_pieces.specs.Copies.{IsNonDescending}

-- the vertex at which a half edge begins, and the half edge
abbrev pub root_pair : List (List ℕ) → ℕ → Pair
root_pair faces h = record { first = start faces h; second = h }

-- a pair of a list
abbrev pub root_in : List Pair → ℕ → Pair
root_in pairs i = slice_index_or pairs i (record { first = 0; second = 0 })

-- a root of umbrellas and the vertex at which it begins
pub record IsRoot (faces : List (List ℕ)) (roots : List ℕ) (p : Pair) : Type 0 where
  pub within : p.second < length roots
  pub own : slice_index roots p.second ≡ p.second
  pub vertex : p.first ≡ start faces p.second

-- the roots among the first n half edges
pub record AreRoots (faces : List (List ℕ)) (roots : List ℕ) (n : ℕ) (list : List Pair) : Type 0 where
  pub each : All (IsRoot faces roots) list
  pub all : (h : ℕ) → h < n → slice_index roots h ≡ h → Contains list (root_pair faces h)
  pub few : length list ≤ n

-- the half edge holds the new vertex that has its number
abbrev pub HoldsVertex : (numbers holders : List ℕ) → ℕ → Type 0
HoldsVertex numbers holders h =
    (slice_index numbers h < length holders) × (slice_index holders (slice_index numbers h) ≡ h)

-- the new vertex w has a root, and is a copy of the vertex at which that begins
pub record IsHolder (faces : List (List ℕ)) (roots numbers origin holders : List ℕ) (w : ℕ) : Type 0 where
  pub within : slice_index holders w < length roots
  pub own : slice_index roots (slice_index holders w) ≡ slice_index holders w
  pub number : slice_index numbers (slice_index holders w) ≡ w
  pub vertex : slice_index origin w ≡ start faces (slice_index holders w)

-- new vertices with their roots, in the order of the old vertices
pub record ArePlaced (faces : List (List ℕ)) (roots numbers origin holders : List ℕ) : Type 0 where
  pub count : length numbers ≡ length roots
  pub same : length origin ≡ length holders
  pub each : (w : ℕ) → w < length holders → IsHolder faces roots numbers origin holders w
  pub order : IsNonDescending origin

-- no old vertex of a new one is above this one
abbrev pub IsHighest : List ℕ → ℕ → Type 0
IsHighest origin v = (w : ℕ) → w < length origin → slice_index origin w ≤ v

-- each root holds a new vertex
pub record AreVerticesOf (faces : List (List ℕ)) (roots numbers origin holders : List ℕ) : Type 0 where
  pub placed : ArePlaced faces roots numbers origin holders
  pub all : (h : ℕ) → h < length roots → slice_index roots h ≡ h → HoldsVertex numbers holders h
  pub few : length holders ≤ length roots

-- the number of the new vertex of a half edge
abbrev pub fan_number : (numbers roots : List ℕ) → ℕ → ℕ
fan_number numbers roots h = slice_index numbers (slice_index roots h)

-- each corner of the new faces has the number of its umbrella
pub record AreRenumbered (faces : List (List ℕ)) (roots numbers : List ℕ) (new : List (List ℕ)) : Type 0 where
  pub count : length new ≡ length faces
  pub each :
      (f : ℕ) → f < length faces
      → face_at new f
      ≡ fan_number numbers roots (3 * f) ∷ fan_number numbers roots (3 * f + 1) ∷ fan_number numbers roots (3 * f + 2) ∷ []
