-- Lines of sight during a traversal, and one step along them.
--
--   CanFollow located sights             sights of inserted data points can be traversed to these scanners
--   IsLineOf scanners cells sight line   the line of a sight
--   IsLineIn s line                      a line that can be traversed
--   added_on s line id k                 the weight that it adds to a facet
--   added_behind s line id               the weight that it adds to a cell
--   HasCounterRoom sides amount counters   the counter of the first of the facets to come does not overflow by an amount
--   IsCountedStep                        a walk moved on by one facet, whose counter was raised
use Rattle.std.specs.Prelude.{ℕ, ◌≡◌, ◌<◌, ◌≤◌, ◌+◌, ◌*◌, ◌^◌, List, ◌∷◌, set, slice_index, slice_index_or, if◌then◌else◌}
use Rattle.std.specs.List.{All}
use Rattle.geo_sign.specs.declared.point.TheConstants.{CORNERS, DATA_LIMIT}
use Rattle.geo_sign.specs.Point.{Point, origin, IsWithin}
use Rattle.geo_sign.specs.Rational.{displaced}
use Rattle.geo_sign.specs.Vertices.{Has}
use Rattle.cell_laws.specs.Links.{Side}
use Rattle.flow_net.specs.declared.votes.Sight.{Sight}
use Rattle.tetra_store.specs.Delaunay.{IsDelaunay}
use Rattle.tetra_store.specs.Links.{links_of}
use Rattle.tetra_store.specs.Store.{Store, vertices_of}
use Rattle.sight.specs.Walks.{Walk, IsGoneOn, IsEndCell}
use Rattle.solution.specs.declared.tally.Line.{Line}
use Rattle.solution.specs.declared.tally.Located.{Located}
use Rattle.solution.specs.Counts.{IsInRange, AreScannerCells, added_by, is_crossed_at, is_behind_at}

-- through Delaunay cells, to scanners at data points whose cells are given
pub record CanFollow (located : Located) (sights : List Sight) : Type 0 where
  pub delaunay : IsDelaunay (vertices_of located.t.now) (links_of located.t.now.slots)
  pub in_range : All (IsInRange (vertices_of located.t.now) located.scanners.now) sights
  pub data_points : All (IsWithin DATA_LIMIT) located.scanners.now
  pub cells : AreScannerCells located.t.now located.scanners.now located.cells.now

-- from the sight's vertex to the position of its scanner, which is in this cell
pub record IsLineOf (scanners : List Point) (cells : List ℕ) (sight : Sight) (line : Line) : Type 0 where
  pub vertex : line.vertex ≡ sight.vertex
  pub scanner : line.scanner ≡ slice_index_or scanners sight.scanner origin
  pub end : line.end ≡ slice_index cells sight.scanner
  pub added : line.added ≡ added_by sight

-- from an inserted data point to a data point with a known cell
pub record IsLineIn (s : Store) (line : Line) : Type 0 where
  pub inserted : Has (vertices_of s) line.vertex
  pub data_vertex : CORNERS ≤ line.vertex
  pub data_point : IsWithin DATA_LIMIT line.scanner
  pub end : IsEndCell s line.scanner line.end

-- the weight that a line adds to facet k of a cell
abbrev pub added_on : Store → Line → (id k : ℕ) → ℕ
added_on s line id k = if is_crossed_at s line.vertex (displaced line.scanner) id k then line.added else 0

-- the weight that it adds to a cell
abbrev pub added_behind : Store → Line → (id : ℕ) → ℕ
added_behind s line id = if is_behind_at s line.vertex (displaced line.scanner) id then line.added else 0

-- the counter of the first facet to come, if there is one, stays below 2 ^ 32 with the amount
abbrev pub HasCounterRoom : List Side → ℕ → List ℕ → Type 0
HasCounterRoom sides amount counters =
    (side : Side) (later : List Side) → side.side < 4 → sides ≡ side ∷ later
    → slice_index counters (4 * side.at + side.side) + amount < 2 ^ 32

-- the walk moved on by one facet, and the amount was added to its counter
pub record IsCountedStep (amount : ℕ) (from to : Walk) (old new : List ℕ) : Type 0 where
  pub on : IsGoneOn from to
  pub raised : new ≡ set old (4 * to.at + to.entered) (slice_index old (4 * to.at + to.entered) + amount)
