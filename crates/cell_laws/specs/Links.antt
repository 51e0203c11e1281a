-- Linked cells: x stands for the cell cell x, and next x k is the adjacent cell at its facet k.
--
--   Side                                  a name and one of its cell's sides
--   AreLinked v live cell next            neighbors have the opposite facet, only walls have no neighbor, and no two
--                                         cells have a directed facet in common
--   IsFlooded v p live cell next marked   a neighbor in conflict of a marked cell in conflict is marked
--   IsRimSide v p cell next x k           the side has no adjacent cell, or one without conflict
--   IsFanAt v p live cell next a b c      the facet is that of one of these sides, of a cell in conflict
use Rattle.std.specs.Prelude.{ℕ, ◌<◌, ◌≡◌, ◌⊎◌, Bool, true, Option, Some, None, List}
use Rattle.geo_sign.specs.Tetrahedron.{Tetrahedron, DirectedFacet, facet, facet_of, IsTurned, IsRotated}
use Rattle.geo_sign.specs.Vertices.{Vertices, IsWall}
use Rattle.geo_sign.specs.Boxes.{IsInConflict, IsClearOf}
use Rattle.cell_laws.specs.Lists.{IsIn}

pub record Side : Type 0 where
  pub at : ℕ
  pub side : ℕ

-- y has the facet f in the other direction
pub record IsBackAt {X : Type 0} (live : List X) (cell : X → Tetrahedron) (f : DirectedFacet) (y : X) : Type 0 where
  pub listed : IsIn live y
  pub side : ℕ
  pub in_range : side < 4
  pub turned : IsTurned f (facet_of (cell y) side)

pub record AreLinked {X : Type 0} (v : Vertices) (live : List X) (cell : X → Tetrahedron)
    (next : X → ℕ → Option X) : Type 0 where
  pub back : (x : X) (k : ℕ) (y : X) → IsIn live x → k < 4 → next x k ≡ Some y → IsBackAt live cell (facet_of (cell x) k) y
  pub walls : (x : X) (k : ℕ) → IsIn live x → k < 4 → next x k ≡ None → IsWall v (facet_of (cell x) k)
  pub apart :
      (x y : X) (j k : ℕ) → IsIn live x → IsIn live y → j < 4 → k < 4 → IsRotated (facet_of (cell x) j) (facet_of (cell y) k) →
      x ≡ y

abbrev pub IsFlooded :
    {X : Type 0} (v : Vertices) (p : ℕ) (live : List X) (cell : X → Tetrahedron) (next : X → ℕ → Option X) → (X → Bool) → Type 0
IsFlooded {X} v p live cell next marked =
    (x : X) (k : ℕ) (y : X) → IsIn live x → marked x ≡ true → IsInConflict v p (cell x) → k < 4 → next x k ≡ Some y →
    IsInConflict v p (cell y) → marked y ≡ true

abbrev pub IsRimSide : {X : Type 0} (v : Vertices) (p : ℕ) (cell : X → Tetrahedron) (next : X → ℕ → Option X) → X → ℕ → Type 0
IsRimSide {X} v p cell next x k = (next x k ≡ None) ⊎ ((y : X) × (next x k ≡ Some y) × IsClearOf v p (cell y))

-- a cell in conflict, and a side of it on the boundary of the conflict region whose facet is a b c up to rotation
pub record IsFanAt {X : Type 0} (v : Vertices) (p : ℕ) (live : List X) (cell : X → Tetrahedron) (next : X → ℕ → Option X)
    (a b c : ℕ) : Type 0 where
  pub at : X
  pub side : ℕ
  pub listed : IsIn live at
  pub in_range : side < 4
  pub conflict : IsInConflict v p (cell at)
  pub rim : IsRimSide v p cell next at side
  pub rotated : IsRotated (facet_of (cell at) side) (facet a b c)
