-- A flood fill over the links of cells, from cell to adjacent cell. Sides are counted through the list of cells that were
-- reached: side k of the cell at index j has the number 4 * j + k. The list `fan` has the boundary facets that were found.
--
--   AreMarked stamps round cells             the numbers that are marked in this round are exactly those in the list of
--                                            cells
--   facet_on f across                        a boundary facet: the facet f with its adjacent cell
--   IsReached                                three ways to cross a facet: the adjacent cell was reached before, and
--                                            nothing changes
--   IsNewlyReached                           the adjacent cell is in conflict and is reached now
--   IsLeft                                   no adjacent cell is in conflict, and the facet is appended to the boundary
--   IsCrossed v links p f across c g c' g'   the facet f was crossed in one of three ways (`IsReached`,
--                                            `IsNewlyReached`, `IsLeft`), from cells c and boundary g to cells c' and
--                                            boundary g'
--   IsRimAt v links p cells fan n i          boundary facet i is the facet of one of the first n sides of the cells
--                                            reached, with the neighbor there, which is not in conflict
--   HasFanFacet fan f across                 the boundary has the facet f with this adjacent cell
--   IsPassed cells fan f across              the adjacent cell exists and was reached, or the boundary has the facet f
--                                            with this adjacent cell
--   IsFlooding v links p from cells fan n    the first n sides of the cells reached were crossed. The cells reached
--                                            contain the first one, are live, distinct and in conflict, and each
--                                            boundary facet is one of these sides, each once
--   IsVisited v links p id c g c' g'         if the sides of all cells before the cell id were crossed (`IsFlooding`),
--                                            its four sides were crossed too, with the cells c' and the boundary g' as
--                                            the result
use Rattle.std.specs.Prelude.{ℕ, ◌≡◌, ◌<◌, ◌+◌, ◌*◌, ◌⊎◌, List, [], ◌∷◌, ◌++◌, Option, Some, length, slice_index, Contains}
use Rattle.geo_sign.specs.Tetrahedron as geo
use Rattle.geo_sign.specs.Tetrahedron.{facet_of, IsRotated}
use Rattle.geo_sign.specs.Vertices.{Vertices}
use Rattle.tetra_store.specs.declared.fan.Facet.{Facet}
use Rattle.tetra_store.specs.Links.{Links, IsLive}
use Rattle.tetra_store.specs.Fan.{fan_facet, fan_outer}
use Rattle.geo_sign.specs.Boxes.{IsInConflict, IsClearOf}
use Rattle.cavity.specs.Marks.{IsMarked}

-- exactly the cells reached are marked
pub record AreMarked (stamps : List ℕ) (round : ℕ) (cells : List ℕ) : Type 0 where
  pub listed : (x : ℕ) → IsMarked stamps round x → Contains cells x
  pub marked : (x : ℕ) → Contains cells x → IsMarked stamps round x

-- a facet with its adjacent cell
abbrev pub facet_on : List ℕ → Option ℕ → Facet
facet_on f across = record { v = f; outer = across }

-- the adjacent cell was reached before
pub record IsReached (across : Option ℕ) (cells : List ℕ) (fan : List Facet) (cells' : List ℕ)
    (fan' : List Facet) : Type 0 where
  pub cell : ℕ
  pub is : across ≡ Some cell
  pub listed : Contains cells cell
  pub cells_same : cells' ≡ cells
  pub fan_same : fan' ≡ fan

-- the adjacent cell is in conflict, and is reached now
pub record IsNewlyReached (v : Vertices) (links : Links) (p : ℕ) (across : Option ℕ) (cells : List ℕ) (fan : List Facet)
    (cells' : List ℕ) (fan' : List Facet) : Type 0 where
  pub cell : ℕ
  pub is : across ≡ Some cell
  pub new : ¬ Contains cells cell
  pub conflict : IsInConflict v p (links.at cell)
  pub cells_more : cells' ≡ cells ++ cell ∷ []
  pub fan_same : fan' ≡ fan

-- no adjacent cell is in conflict
pub record IsLeft (v : Vertices) (links : Links) (p : ℕ) (f : List ℕ) (across : Option ℕ) (cells : List ℕ) (fan : List Facet)
    (cells' : List ℕ) (fan' : List Facet) : Type 0 where
  pub clear : (y : ℕ) → across ≡ Some y → IsClearOf v p (links.at y)
  pub cells_same : cells' ≡ cells
  pub fan_more : fan' ≡ fan ++ facet_on f across ∷ []

-- in one of the three ways
abbrev pub IsCrossed : (v : Vertices) (links : Links) (p : ℕ) (f : List ℕ) (across : Option ℕ) (cells : List ℕ)
    (fan : List Facet) (cells' : List ℕ) (fan' : List Facet) → Type 0
IsCrossed v links p f across cells fan cells' fan' =
    IsReached across cells fan cells' fan'
    ⊎ (IsNewlyReached v links p across cells fan cells' fan' ⊎ IsLeft v links p f across cells fan cells' fan')

-- boundary facet i is that of a side before side n, and its adjacent cell, if there is one, is not in conflict
pub record IsRimAt (v : Vertices) (links : Links) (p : ℕ) (cells : List ℕ) (fan : List Facet) (n i : ℕ) : Type 0 where
  pub cell : ℕ
  pub side : ℕ
  pub cell_in : cell < length cells
  pub side_in : side < 4
  pub before : 4 * cell + side < n
  pub facet : fan_facet fan i ≡ facet_of (links.at (slice_index cells cell)) side
  pub outer : fan_outer fan i ≡ links.next (slice_index cells cell) side
  pub clear : (y : ℕ) → fan_outer fan i ≡ Some y → IsClearOf v p (links.at y)

-- a boundary facet is this one, with this adjacent cell
pub record HasFanFacet (fan : List Facet) (f : geo.DirectedFacet) (across : Option ℕ) : Type 0 where
  pub facet : ℕ
  pub facet_in : facet < length fan
  pub is : fan_facet fan facet ≡ f
  pub outer : fan_outer fan facet ≡ across

-- the adjacent cell was reached, or the facet is on the boundary
abbrev pub IsPassed : (cells : List ℕ) (fan : List Facet) (f : geo.DirectedFacet) (across : Option ℕ) → Type 0
IsPassed cells fan f across = ((y : ℕ) × (across ≡ Some y) × Contains cells y) ⊎ HasFanFacet fan f across

-- The cells reached contain the first one, are live, in conflict and distinct. Each of the first n sides was crossed, each
-- boundary facet is that of one of these sides, and no facet occurs twice.
pub record IsFlooding (v : Vertices) (links : Links) (p from : ℕ) (cells : List ℕ) (fan : List Facet) (n : ℕ) : Type 0 where
  pub start : Contains cells from
  pub live : (id : ℕ) → Contains cells id → IsLive links id
  pub conflict : (id : ℕ) → Contains cells id → IsInConflict v p (links.at id)
  pub distinct : (j k : ℕ) → j < length cells → k < length cells → slice_index cells j ≡ slice_index cells k → j ≡ k
  pub rim : (i : ℕ) → i < length fan → IsRimAt v links p cells fan n i
  pub passed : (j k : ℕ) → j < length cells → k < 4 → 4 * j + k < n
      → IsPassed cells fan (facet_of (links.at (slice_index cells j)) k) (links.next (slice_index cells j) k)
  pub once : (i j : ℕ) → i < length fan → j < length fan → IsRotated (fan_facet fan i) (fan_facet fan j) → i ≡ j

-- the four sides of the cell with this number, wherever it is in the list, were crossed too
abbrev pub IsVisited : (v : Vertices) (links : Links) (p id : ℕ) (cells : List ℕ) (fan : List Facet) (cells' : List ℕ)
    (fan' : List Facet) → Type 0
IsVisited v links p id cells fan cells' fan' =
    (from j : ℕ) → j < length cells → slice_index cells j ≡ id → IsFlooding v links p from cells fan (4 * j)
    → IsFlooding v links p from cells' fan' (4 * j + 4)
