-- Meshes, and the mesh of a list of directed facets among numbered points.
--
--   below n               the numbers below n, ascending
--   IsFace n f            three distinct numbers below n, the smallest first
--   IsFaceList n facets   faces as in `IsMesh` among n points, in strictly ascending order
--   is_vertex_of v f      whether a facet has the vertex v
--   is_used facets v      whether some facet has the vertex v
--   used facets n         the vertices below n that some facet has, ascending
--   new_number facets v   the new number of a vertex of facets
--   point_at places v     the point of a vertex
--   Surface               points and faces
--   mesh_of places facets
--                         the vertices that some facet has, renumbered from 0 in their order, and the facets with these
--                         numbers
--   IsMesh points faces   at most 2^32 - 1 points and faces; each face has three distinct points, the smallest number
--                         first
use Rattle.std.specs.Prelude.{ℕ, zero, suc, ◌≡◌, ◌<◌, ◌==◌, ◌^◌, Bool, List, [], ◌∷◌, ◌++◌, length, slice_index_or, map}
use Rattle.std.specs.Prelude.{filter, All, AllPairs}
use Rattle.std.specs.List.{list_any}
use Rattle.geo_sign.specs.Rising.{IsBefore}
use Rattle.geo_sign.specs.Point.{Point, origin}

-- The numbers 0, 1, .., n - 1.
abbrev pub below : ℕ → List ℕ
below zero = []
below (suc n) = below n ++ n ∷ []

-- three distinct numbers below n, the smallest first
abbrev pub IsFace : ℕ → List ℕ → Type 0
IsFace n (a ∷ b ∷ c ∷ []) = (a < b) × (a < c) × (¬ (b ≡ c)) × (b < n) × (c < n)
IsFace n _ = ⊥

-- directed facets among n vertices, in strictly ascending order
pub record IsFaceList (n : ℕ) (facets : List (List ℕ)) : Type 0 where
  pub each : All (IsFace n) facets
  pub rising : AllPairs IsBefore facets

-- Tests whether v is a vertex of the facet.
abbrev pub is_vertex_of : ℕ → List ℕ → Bool
is_vertex_of v facet = list_any (λ u. u == v) facet

-- Tests whether v is a vertex of some facet.
abbrev pub is_used : List (List ℕ) → ℕ → Bool
is_used facets v = list_any (is_vertex_of v) facets

-- The vertices below n that some facet has, ascending.
abbrev pub used : List (List ℕ) → ℕ → List ℕ
used facets n = filter (is_used facets) (below n)

-- The index of v among the vertices of the mesh: how many of them have a smaller number.
abbrev pub new_number : List (List ℕ) → ℕ → ℕ
new_number facets v = length (used facets v)

-- The point of vertex v: the element of the list at index v.
abbrev pub point_at : List Point → ℕ → Point
point_at places v = slice_index_or places v origin

-- A mesh: points, and faces as lists of indices into the points, from 0.
pub record Surface : Type 0 where
  pub points : List Point
  pub faces : List (List ℕ)

-- The mesh of some facets: the vertices that they use, in order, and the facets with these vertices renumbered.
-- Vertices that no facet uses are left out.
abbrev pub mesh_of : List Point → List (List ℕ) → Surface
mesh_of places facets =
    record {
      points = map (point_at places) (used facets (length places));
      faces = map (map (new_number facets)) facets;
    }

-- A valid mesh: at most 2 ^ 32 - 1 points and at most 2 ^ 32 - 1 faces, and each face has three distinct indices of points, the
-- smallest first.
pub record IsMesh (points : List Point) (faces : List (List ℕ)) : Type 0 where
  pub few_points : length points < 2 ^ 32
  pub few_faces : length faces < 2 ^ 32
  pub each : All (IsFace (length points)) faces
