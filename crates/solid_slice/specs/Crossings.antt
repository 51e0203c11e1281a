-- The faces that cross the height, by the edges that cross it.
--
--   goes_up points h u v         whether u is below the height and v above
--   key_of_crossing c            the number of the edge of a crossing, by which pairs of vertices are in order
--   the_crossed c                the face of a crossing
--   crossings_at edge f          the crossing of face f on this edge, if there is one
--   faces_of_pair k crossings    the faces of the crossings whose edge has this number
--   AreCrossings points faces h n ups downs   the crossings of the first n faces, upwards and downwards
use Rattle.std.specs.Prelude.{ℕ, ◌≡◌, ◌<◌, ◌^◌, ◌==◌, ◌&&◌, not, Bool, Option, None, Some, List, [], ◌∷◌, map, filter, ℤ}
use Rattle.geo_sign.specs.Point.{Point}
use Rattle.mesh.specs.Meshes.{below}
use Rattle.mesh_edges.specs.Edges.{has_edge, face_at}
use Rattle.solid_slice.specs.Cuts.{is_above}
use Rattle.mesh_edges.specs.Pairs.{key_of, key_of_pair}
use Rattle.mesh_edges.specs.declared.pairs.Pair.{Pair}
use Rattle.solid_slice.specs.declared.crossings.Crossing.{Crossing}

abbrev pub goes_up : List Point → ℤ → (u v : ℕ) → Bool
goes_up points h u v = not (is_above points h u) && is_above points h v

abbrev pub key_of_crossing : Crossing → ℕ
key_of_crossing c = key_of_pair c.edge

abbrev pub the_crossed : Crossing → ℕ
the_crossed c = c.face

-- the crossing of face f on this edge, if there is one
abbrev pub crossings_at : Option Pair → ℕ → List Crossing
crossings_at None f = []
crossings_at (Some edge) f = record { edge = edge; face = f } ∷ []

-- the faces of the crossings whose edge has this number
abbrev pub faces_of_pair : ℕ → List Crossing → List ℕ
faces_of_pair k crossings = map the_crossed (filter (λ c. key_of_crossing c == k) crossings)

-- face f crosses the height upwards on the edge from u to v
abbrev pub is_upward : List Point → List (List ℕ) → ℤ → (u v f : ℕ) → Bool
is_upward points faces h u v f = goes_up points h u v && has_edge u v (face_at faces f)

-- it crosses the height downwards on the same edge, which it has from v to u
abbrev pub is_downward : List Point → List (List ℕ) → ℤ → (u v f : ℕ) → Bool
is_downward points faces h u v f = goes_up points h u v && has_edge v u (face_at faces f)

-- by edge, in face order
pub record AreCrossings (points : List Point) (faces : List (List ℕ)) (h : ℤ) (n : ℕ) (ups downs : List Crossing) : Type 0 where
  pub upward : (u v : ℕ) → v < 2 ^ 32 → faces_of_pair (key_of u v) ups ≡ filter (is_upward points faces h u v) (below n)
  pub downward : (u v : ℕ) → v < 2 ^ 32 → faces_of_pair (key_of u v) downs ≡ filter (is_downward points faces h u v) (below n)
