-- Umbrellas: the half edges that begin at one vertex, as they follow each other around it.
--
--   AreFanLabels faces twins labels  half edges of one umbrella have one label, and half edges with one label begin at one vertex
--   AreMerged faces twins n parents  the first n half edges are in one set with the next ones, and a set begins at one vertex
--   AreDivided faces twins roots     a half edge of each umbrella, and no two half edges have the same umbrellas at both ends
use Rattle.std.specs.Prelude.{ℕ, ◌≡◌, ◌<◌, List, length, slice_index}
use Rattle.mesh_edges.specs.Sets.{AreTogether}
use Rattle.mesh_edges.specs.HalfEdges.{start, behind, around}

-- one label around a vertex, and one vertex for each label
pub record AreFanLabels (faces : List (List ℕ)) (twins labels : List ℕ) : Type 0 where
  pub count : length labels ≡ length twins
  pub around : (h : ℕ) → h < length twins → slice_index labels (around twins h) ≡ slice_index labels h
  pub starts :
      (g h : ℕ) → g < length twins → h < length twins → slice_index labels g ≡ slice_index labels h → start faces g ≡ start faces h

-- The first n half edges are together with the next ones around their vertices, and half edges that are together begin at one vertex.
pub record AreMerged (faces : List (List ℕ)) (twins : List ℕ) (n : ℕ) (parents : List ℕ) : Type 0 where
  pub count : length parents ≡ length twins
  pub merged : (h : ℕ) → h < n → AreTogether parents h (around twins h)
  pub starts : (g h : ℕ) → AreTogether parents g h → start faces g ≡ start faces h

-- Each half edge has the root of its umbrella, which is its own root and begins at the same vertex. Two half edges whose umbrellas are
-- the same at both ends are one.
pub record AreDivided (faces : List (List ℕ)) (twins roots : List ℕ) : Type 0 where
  pub count : length roots ≡ length twins
  pub within : (h : ℕ) → h < length twins → slice_index roots h < length twins
  pub own : (h : ℕ) → h < length twins → slice_index roots (slice_index roots h) ≡ slice_index roots h
  pub around : (h : ℕ) → h < length twins → slice_index roots (around twins h) ≡ slice_index roots h
  pub starts : (h : ℕ) → h < length twins → start faces (slice_index roots h) ≡ start faces h
  pub apart :
      (g h : ℕ) → g < length twins → h < length twins → slice_index roots g ≡ slice_index roots h
      → slice_index roots (behind g) ≡ slice_index roots (behind h) → g ≡ h
