-- The way of a sight over linked cells: from the cell at its vertex p that is towards the place s, to the cell that holds s.
--
--   IsOnSight v p s t                     a sight passes the cell
--   entered_facet cell c                  the facet of a side
--   is_that c d                           the side is this one
--   IsSightStep v live cell next p s x c  a step of a sight through a facet
--   IsSightPath v live cell next p s x cs   all facets that a sight crosses from a cell on, up to the scanner's cell
--   AreNearing v cell p s cs              each side of a list has a facet that is crossed nearer to the vertex than
--                                         those of all later sides
use Rattle.std.specs.Prelude.{ℕ, ◌<◌, ◌≡◌, ◌⊎◌, ◌==◌, ◌&&◌, Bool, true, Option, Some, List, [], ◌∷◌}
use Rattle.geo_sign.specs.Places.{IsNearer}
use Rattle.geo_sign.specs.Tetrahedron.{turned, Tetrahedron, DirectedFacet, facet_of, IsTurned}
use Rattle.geo_sign.specs.Rational.{RationalPoint}
use Rattle.geo_sign.specs.Vertices.{Vertices}
use Rattle.geo_sign.specs.Sights.{is_crossed, is_towards, is_cell_of}
use Rattle.cell_laws.specs.Links.{Side}
use Rattle.cell_laws.specs.Lists.{IsIn}

abbrev pub IsOnSight : Vertices → (p : ℕ) → RationalPoint → Tetrahedron → Type 0
IsOnSight v p s t = (is_towards v p s t ≡ true) ⊎ ((k : ℕ) × (k < 4) × (is_crossed v p s (facet_of t k) ≡ true))

abbrev pub entered_facet : (cell : ℕ → Tetrahedron) → Side → DirectedFacet
entered_facet cell c = facet_of (cell c.at) c.side

abbrev pub is_that : Side → Side → Bool
is_that c d = (d.at == c.at) && (d.side == c.side)

pub record IsSightStep (v : Vertices) (live : List ℕ) (cell : ℕ → Tetrahedron) (next : ℕ → ℕ → Option ℕ) (p : ℕ) (s : RationalPoint)
    (x : ℕ) (c : Side) : Type 0 where
  pub leaving : ℕ
  pub leaving_below : leaving < 4
  pub left : is_crossed v p s (turned (facet_of (cell x) leaving)) ≡ true
  pub across : next x leaving ≡ Some c.at
  pub listed : IsIn live c.at
  pub side_below : c.side < 4
  pub turned : IsTurned (facet_of (cell x) leaving) (entered_facet cell c)

abbrev pub IsSightPath :
    (v : Vertices) (live : List ℕ) (cell : ℕ → Tetrahedron) (next : ℕ → ℕ → Option ℕ) (p : ℕ) (s : RationalPoint) → ℕ →
    List Side → Type 0
IsSightPath v live cell next p s x [] = is_cell_of v s (cell x) ≡ true
IsSightPath v live cell next p s x (c ∷ cs) = IsSightStep v live cell next p s x c × IsSightPath v live cell next p s c.at cs

abbrev pub AreNearing : (v : Vertices) (cell : ℕ → Tetrahedron) (p : ℕ) (s : RationalPoint) → List Side → Type 0
AreNearing v cell p s [] = Unit {0}
AreNearing v cell p s (c ∷ cs) =
    ((d : Side) → IsIn cs d → IsNearer v p s (entered_facet cell c) (entered_facet cell d)) × AreNearing v cell p s cs
