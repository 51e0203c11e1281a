-- Pieces of a mesh: faces that are connected across common edges.
--
--   AreAdjacent faces f g       faces number f and g have an edge in common
--   IsFirstOfPiece faces f      no face before f is connected with it by adjacent faces
use Rattle.std.specs.Prelude.{ℕ, ◌≡◌, ◌/◌, ◌<◌, List}
use Rattle.mesh_edges.specs.Paths.{ArePath}
use Rattle.mesh_measures.specs.Corners.{AreNeighbors}

-- an edge in common, in either direction
pub record AreAdjacent (faces : List (List ℕ)) (f g : ℕ) : Type 0 where
  pub c : ℕ
  pub d : ℕ
  pub one : c / 3 ≡ f
  pub other : d / 3 ≡ g
  pub edge : AreNeighbors faces c d

-- Each piece has one first face, so there are as many pieces as these.
abbrev pub IsFirstOfPiece : List (List ℕ) → ℕ → Type 0
IsFirstOfPiece faces f = (g : ℕ) → g < f → ArePath (AreAdjacent faces) f g → ⊥
