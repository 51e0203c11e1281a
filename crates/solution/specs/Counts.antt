-- Counts by the numbers of cells in the store.
--
--   IsInRange v scanners sight                    the sight is of a data point that is in, from one of the scanners
--   HasCellsOf s given                            the store has the Delaunay cells of the box's corners and the points
--                                                 that are given, all inserted
--   added_by sight                                what a sight adds to a count: its weight
--   sum_where test sights                         what the sights that pass a test add together
--   is_crossed_at s p q id k                      the number has a cell, and the sight crosses its facet k
--   is_behind_at s p q id                         the number has a cell, and it is behind the sight
--   IsScannerCell s q id                          the cell is that of the scanner at q, and the only one
--   AreScannerCells s scanners cells              the cells are those of the scanners, in their order
--   AreCounted s scanners sights crossed behind   the counter at 4 * id + k is what the sights that cross facet k of
--                                                 the cell id add. The counter at id is what the sights that the cell
--                                                 is behind add
use Rattle.std.specs.Prelude.{ℕ, ◌≡◌, ◌<◌, ◌≤◌, ◌+◌, ◌*◌, ◌++◌, ◌&&◌, Bool, true, false, List, length, slice_index}
use Rattle.std.specs.Prelude.{slice_index_or, if◌then◌else◌}
use Rattle.std.specs.List.{sum_by}
use Rattle.geo_sign.specs.declared.point.TheConstants.{CORNERS}
use Rattle.geo_sign.specs.Point.{Point, origin}
use Rattle.geo_sign.specs.Rational.{RationalPoint, displaced}
use Rattle.geo_sign.specs.Sights.{is_crossed, is_behind, is_cell_of}
use Rattle.geo_sign.specs.Tetrahedron.{facet_of}
use Rattle.geo_sign.specs.Vertices.{Vertices, Has, corners}
use Rattle.flow_net.specs.declared.votes.Sight.{Sight}
use Rattle.visibility.specs.Scenes.{scanner_point}
use Rattle.visibility.specs.declared.scene.Scene.{Scene}
use Rattle.tetra_store.specs.Delaunay.{IsDelaunay}
use Rattle.tetra_store.specs.Links.{links_of, IsLive}
use Rattle.tetra_store.specs.Store.{Store, vertices_of}
use Rattle.sight.specs.Walks.{IsEndCell}

-- it is from an inserted data point to one of the scanners
pub record IsInRange (v : Vertices) (scanners : List Point) (sight : Sight) : Type 0 where
  pub inserted : Has v sight.vertex
  pub data_vertex : CORNERS ≤ sight.vertex
  pub scanner : sight.scanner < length scanners

-- the store has the Delaunay cells of the box's corners and the scene's points, all inserted
pub record HasCellsOf (s : Store) (given : Scene) : Type 0 where
  pub points : s.points ≡ corners ++ given.points.now
  pub inserted : (u : ℕ) → u < length s.points → slice_index_or s.inserted u false ≡ true
  pub delaunay : IsDelaunay (vertices_of s) (links_of s.slots)

-- its weight
abbrev pub added_by : Sight → ℕ
added_by sight = sight.weight

-- the total weight of the sights that pass a test
abbrev pub sum_where : (Sight → Bool) → List Sight → ℕ
sum_where test sights = sum_by (λ sight. if test sight then added_by sight else 0) sights

-- the number has a cell, and the sight crosses its facet k
abbrev pub is_crossed_at : Store → (p : ℕ) → RationalPoint → (id k : ℕ) → Bool
is_crossed_at s p q id k =
    (links_of s.slots).is_live id && is_crossed (vertices_of s) p q (facet_of ((links_of s.slots).at id) k)

-- the number has a cell, and it is behind the sight
abbrev pub is_behind_at : Store → (p : ℕ) → RationalPoint → (id : ℕ) → Bool
is_behind_at s p q id = (links_of s.slots).is_live id && is_behind (vertices_of s) p q ((links_of s.slots).at id)

-- the cell of the scanner at a point, and the only one
pub record IsScannerCell (s : Store) (q : Point) (id : ℕ) : Type 0 where
  pub end : IsEndCell s q id
  pub only : (x : ℕ) → IsLive (links_of s.slots) x → is_cell_of (vertices_of s) (displaced q) ((links_of s.slots).at x) ≡ true
      → x ≡ id

-- for each scanner its cell
pub record AreScannerCells (s : Store) (scanners : List Point) (cells : List ℕ) : Type 0 where
  pub count : length cells ≡ length scanners
  pub at : (k : ℕ) → k < length scanners → IsScannerCell s (slice_index_or scanners k origin) (slice_index cells k)

-- four counts a cell, at 4 * id + k for the facet of side k, and one a cell
pub record AreCounted (s : Store) (scanners : List Point) (sights : List Sight) (crossed behind : List ℕ) : Type 0 where
  pub crossed_fits : 4 * length s.slots ≤ length crossed
  pub behind_fits : length s.slots ≤ length behind
  pub facets :
      (id k : ℕ) → IsLive (links_of s.slots) id → k < 4
      → slice_index crossed (4 * id + k)
      ≡ sum_where
      (λ sight. is_crossed (vertices_of s) sight.vertex (scanner_point scanners sight.scanner)
      (facet_of ((links_of s.slots).at id) k)) sights
  pub cells :
      (id : ℕ) → IsLive (links_of s.slots) id
      → slice_index behind id
      ≡ sum_where
      (λ sight. is_behind (vertices_of s) sight.vertex (scanner_point scanners sight.scanner) ((links_of s.slots).at id)) sights
