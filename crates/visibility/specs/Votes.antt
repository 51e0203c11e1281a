-- The visibility weights that sights add (Labatut, Pons and Keriven 2007, with whole numbers): a sight penalises each facet
-- that it crosses on its way from the scanner to the vertex, and favours the cell behind the vertex as inside.
--
--   is_fixed_in v scanners t, is_fixed v scanners row
--                               the cell stays outside: it has a corner of the box, or a scanner lies in it (also a
--                               scanner without sights). All other cells are free
--   crossings s f               what the sights that cross the directed facet weigh together
--   capacity s f                the visibility weight times the sum of the weights of the sights that cross f, plus the
--                               area weight
--   sights_before s row         what the sights that the cell is behind weigh together
--   sink s row                  the visibility weight times the sum of the weights of the sights that the cell is
--                               behind
--   HasCapacity s cells f       a directed facet of a cell with a free adjacent cell
--   IsFacetList s cells facets  the list has exactly the facets of these cells that have a capacity (`HasCapacity`),
--                               each once, in ascending order
--   IsComplexOf s complex       all cells of the scene, and all facets that have a capacity
use Rattle.std.specs.Prelude.{ℕ, ◌≡◌, ◌+◌, ◌*◌, ◌||◌, nat_lt, Bool, false, List, AllPairs, Contains}
use Rattle.std.specs.List.{list_any}
use Rattle.geo_sign.specs.declared.point.TheConstants.{CORNERS}
use Rattle.flow_net.specs.Weights.{weight_where}
use Rattle.geo_sign.specs.Point.{Point}
use Rattle.geo_sign.specs.Rational.{displaced}
use Rattle.geo_sign.specs.Tetrahedron.{Tetrahedron, DirectedFacet, facet_at, numbers_of, turned}
use Rattle.geo_sign.specs.Vertices.{Vertices}
use Rattle.geo_sign.specs.Cells.{IsCellList, written}
use Rattle.geo_sign.specs.Rising.{IsBefore}
use Rattle.geo_sign.specs.Sights.{is_crossed, is_behind, is_cell_of}
use Rattle.visibility.specs.Scenes.{Scene, scanner_point}
use Rattle.visibility.specs.Complexes.{Complex, HasFacet, cell_of}

-- Tests whether the cell has a corner of the box.
abbrev pub has_corner : Tetrahedron → Bool
has_corner t = nat_lt t.a CORNERS || nat_lt t.b CORNERS || nat_lt t.c CORNERS || nat_lt t.d CORNERS

-- Tests whether some perturbed scanner is inside the cell. A scanner that sees no point counts too.
abbrev pub has_scanner : Vertices → List Point → Tetrahedron → Bool
has_scanner v scanners t = list_any (λ q. is_cell_of v (displaced q) t) scanners

-- Tests whether the cell is fixed outside (a hard constraint): it has a corner of the box, or a scanner is in it. All
-- other cells are free.
abbrev pub is_fixed_in : Vertices → List Point → Tetrahedron → Bool
is_fixed_in v scanners t = has_corner t || has_scanner v scanners t

-- Tests whether a cell, given by its sorted vertex tuple, is fixed outside (`is_fixed_in`).
unfoldable pub is_fixed : Vertices → List Point → List ℕ → Bool
is_fixed v scanners row = is_fixed_in v scanners (written v row)

-- The total weight of the lines of sight that cross the directed facet f.
unfoldable pub crossings : Scene → DirectedFacet → ℕ
crossings s f = weight_where (λ sight. is_crossed s.vertices sight.vertex (scanner_point s.scanners sight.scanner) f) s.sights

-- What the directed facet f costs if the surface passes there: `vote` times the weight of the lines of sight that cross
-- it, plus `smooth`.
abbrev pub capacity : Scene → DirectedFacet → ℕ
capacity s f = s.settings.vote * crossings s f + s.settings.smooth

-- The total weight of the lines of sight that end just before the cell. So the cell is the first one after their point.
unfoldable pub sights_before : Scene → List ℕ → ℕ
sights_before s row =
    weight_where
    (λ sight. is_behind s.vertices sight.vertex (scanner_point s.scanners sight.scanner) (written s.vertices row)) s.sights

-- What the cell costs if it is outside: `vote` times the weight of the lines of sight that end just before it.
unfoldable pub sink : Scene → List ℕ → ℕ
sink s row = s.settings.vote * sights_before s row

-- The directed facet f has a cell on each side, and the adjacent cell (on its negative side) is not fixed outside. Only
-- these facets can lead from an outside to an inside cell, so only these have a cost.
pub record HasCapacity (s : Scene) (cells : List (List ℕ)) (f : List ℕ) : Type 0 where
  pub three : f ≡ numbers_of (facet_at f)
  pub own : HasFacet s.vertices cells (facet_at f)
  pub across : HasFacet s.vertices cells (turned (facet_at f))
  pub free : is_fixed s.vertices s.scanners (cell_of s.vertices cells (turned (facet_at f))) ≡ false

-- The list contains exactly the directed facets that have a capacity, each once, sorted.
pub record IsFacetList (s : Scene) (cells facets : List (List ℕ)) : Type 0 where
  pub rising : AllPairs IsBefore facets
  pub only : (f : List ℕ) → Contains facets f → HasCapacity s cells f
  pub all : (f : List ℕ) → HasCapacity s cells f → Contains facets f

-- The complex has all Delaunay cells of the scene, and all directed facets that have a capacity.
pub record IsComplexOf (s : Scene) (complex : Complex) : Type 0 where
  pub cells_are : IsCellList s.vertices complex.cells
  pub facets_are : IsFacetList s complex.cells complex.facets
