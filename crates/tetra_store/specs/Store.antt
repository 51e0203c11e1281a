-- What a store is seen as, and what it keeps.
--
--   Store                            the view of a store: the points of the vertices, which of them are inserted, the
--                                    cell at each number, the incident cell of each vertex; `spare`, for how many more
--                                    cells it has memory, and `capacity`, for how many in all
--   data_points_of s                 the points of all vertices but the corners
--   vertices_at points inserted      vertices by number, with the heights of the symbolic perturbation
--   vertices_of s                    the vertices of a store, at the heights of the symbolic perturbation; `points` has
--                                    the corners too
--   AreVertices points inserted      they are the corners and data points
--   AreKept s                        each inserted vertex's incident cell is live and has it
--   IsStore s                        the invariant of a store. The vertices are the corners, which are inserted, and at
--                                    most `VERTEX_LIMIT` distinct data points (2^20, a constant of the code). Each
--                                    vertex has a flag and an incident cell. The cells are linked. The incident cell of
--                                    each inserted vertex is live and has it
--   spare_room capacity count ..     how many cells fit
--   store_from points ..             the view of a store, from its parts. `spare` is the least of three: cells that can
--                                    still have numbers of 32 bits, and the free capacities of the two lists that
--                                    `replace` fills
use Rattle.std.specs.Prelude.{ℕ, ◌≡◌, ◌≤◌, ◌+◌, ◌-◌, ◌/◌, Bool, false, List, Option, length, drop, get_or, slice_index}
use Rattle.std.specs.Prelude.{slice_index_or, min, if◌then◌else◌, nat_lt}
use Rattle.geo_sign.specs.declared.point.TheConstants.{CORNERS}
use Rattle.geo_sign.specs.Point.{Point, origin}
use Rattle.geo_sign.specs.Tie.{height}
use Rattle.geo_sign.specs.Boxes.{IsBoxed}
use Rattle.geo_sign.specs.Vertices.{Vertices, Has}
use Rattle.slab.specs.Slab.{Slab, slab_len}
use Rattle.tetra_store.specs.declared.boxed.TheConstants.{VERTEX_LIMIT}
use Rattle.tetra_store.specs.declared.link.Cell.{Cell}
use Rattle.geo_sign.specs.Writings.{IsVertexOf}
use Rattle.tetra_store.specs.Links.{links_of, IsLive, IsLinked}

-- the point of each vertex, which are inserted, the cell at each number, a cell of each inserted vertex, how many cells more
-- fit with no memory taken, and for how many cells, those that are there included, the slab has taken memory
pub record Store : Type 0 where
  pub points : List Point
  pub inserted : List Bool
  pub slots : List (Option Cell)
  pub kept : List ℕ
  pub spare : ℕ
  pub capacity : ℕ

-- from vertex 8 on
abbrev pub data_points_of : Store → List Point
data_points_of s = drop CORNERS s.points

-- these vertices by number, with the heights of the symbolic perturbation
abbrev pub vertices_at : List Point → List Bool → Vertices
vertices_at points inserted =
    record {
      at = λ u. get_or points u origin;
      high = λ u. height (length points) u (get_or points u origin);
      count = length points;
      is_in = λ u. slice_index_or inserted u false;
    }

abbrev pub vertices_of : Store → Vertices
vertices_of s = vertices_at s.points s.inserted

-- The corners of the box, inserted, and then distinct data points: VERTEX_LIMIT of them at most.
pub record AreVertices (points : List Point) (inserted : List Bool) : Type 0 where
  pub few : length points ≤ CORNERS + VERTEX_LIMIT
  pub boxed : IsBoxed (vertices_at points inserted)

-- the incident cell of each inserted vertex is live and has it
abbrev pub AreKept : Store → Type 0
AreKept s =
    (u : ℕ) → Has (vertices_of s) u
    → IsLive (links_of s.slots) (slice_index s.kept u) × IsVertexOf ((links_of s.slots).at (slice_index s.kept u)) u

pub record IsStore (s : Store) : Type 0 where
  pub flags : length s.inserted ≡ length s.points
  pub keeps : length s.kept ≡ length s.points
  pub vertices : AreVertices s.points s.inserted
  pub linked : IsLinked (vertices_of s) (links_of s.slots)
  pub kept_cells : AreKept s

-- how many cells fit: those for which the slab has room, at numbers below the one that stands for none, and the two lists that
-- are filled when cells are put in, with one number and three edges a cell
abbrev pub spare_room : (capacity count ids edges : ℕ) → ℕ
spare_room capacity count ids edges = if nat_lt capacity 4294967296 then min (capacity - count) (min ids (edges / 3)) else 0

-- what a store is seen as, from its parts
abbrev pub store_from : List Point → List Bool → Slab Cell → List ℕ → (ids edges : ℕ) → Store
store_from points inserted cells kept ids edges =
    record {
      points = points;
      inserted = inserted;
      slots = cells.slots;
      kept = kept;
      spare = spare_room cells.capacity (slab_len cells) ids edges;
      capacity = cells.capacity;
    }
