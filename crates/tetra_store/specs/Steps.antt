-- The steps of `replace`.
--
--   IsSideWritten a b id k other       the cell `other` became the neighbor of the cell id at side k, and nothing else
--                                      has changed
--   new_cell fan p i                   new cell i: the vertices of boundary facet i, and p. Its only neighbor is the
--                                      outer cell at that facet, if there is one
--   ArePut old new cell ids            the cells that the function `cell` gives were put at the numbers `ids`, which
--                                      were free and distinct. All other numbers are as before
--   AreNamed a b fan ids n             at the first n boundary facets, each outer cell has the new cell over the facet
--                                      as its neighbor. All other sides are as before
--   AreFanEdges fan ids edges n        the list has the three edges of each of the first n boundary facets (`edge_of`),
--                                      facet after facet
--   AreJoined a b edges n              the new cells are linked at the first n edges of the list (`IsJoinedAt`). Sides
--                                      without an edge in the list are as before
--   CanGrow a fan                      the precondition for new cells over a boundary: facets are distinct and have
--                                      three distinct vertices each, edges are paired, and outer cells are live and
--                                      have their facets
--   IsGrown a b fan p ids              a new cell was put over each boundary facet, and linked with the outer cell and
--                                      with the other new cells. All earlier cells keep their vertices
--   AreKeptNew old new fan ids p n     the vertices of the first n new cells have new cells as incident cells. Any
--                                      other incident cell is as before, or a new cell with the vertex
--   IsKeeperHeld links old kept id k   if the cell id is the incident cell of its vertex k, this vertex is also in a
--                                      live cell that is not among `old`
--   AreMended links old kept new n     none of the first n cells of `old` is the incident cell of one of its vertices.
--                                      Each changed incident cell is live, not among `old`, and has the vertex
--   AreOut old slots new n             the first n cells of the list `old` were taken out, and all other cells are as
--                                      before
use Rattle.std.specs.Prelude.{ℕ, ◌≡◌, ◌≢◌, ◌<◌, ◌≤◌, ◌+◌, ◌*◌, ◌^◌, ◌⊎◌, List, [], ◌∷◌, Option, Some, None, length, slice_index}
use Rattle.std.specs.Prelude.{slice_index_or, Contains}
use Rattle.geo_sign.specs.Tetrahedron as geo
use Rattle.geo_sign.specs.Tetrahedron.{vertex_of, facet_of, IsRotated, IsTurned}
use Rattle.tetra_store.specs.declared.link.Cell.{Cell}
use Rattle.tetra_store.specs.declared.fan.Facet.{Facet}
use Rattle.tetra_store.specs.declared.edge.Edge.{Edge}
use Rattle.geo_sign.specs.Writings.{IsVertexOf}
use Rattle.tetra_store.specs.Links.{Links, slot_at, IsLive}
use Rattle.tetra_store.specs.Edges.{edge_at, ArePairs}
use Rattle.geo_sign.specs.Edges.{over, edge_start, edge_end}
use Rattle.tetra_store.specs.Fan.{fan_facet, fan_outer, HasPairedEdges, IsHeld}

pub record IsSideWritten (a b : Links) (id k other : ℕ) : Type 0 where
  pub live : (x : ℕ) → b.is_live x ≡ a.is_live x
  pub same : (x : ℕ) → b.at x ≡ a.at x
  pub here : b.next id k ≡ Some other
  pub others : (x m : ℕ) → (x ≢ id) ⊎ (m ≢ k) → b.next x m ≡ a.next x m

-- ---- cells put in

abbrev pub new_cell : List Facet → (p i : ℕ) → Cell
new_cell fan p i = record {
  v = (fan_facet fan i).a ∷ (fan_facet fan i).b ∷ (fan_facet fan i).c ∷ p ∷ [];
  next = None ∷ None ∷ None ∷ fan_outer fan i ∷ [];
}

-- the cells cell 0, cell 1 and so on are in at ids, and nothing else has changed
pub record ArePut (old new : List (Option Cell)) (cell : ℕ → Cell) (ids : List ℕ) : Type 0 where
  pub small : (i : ℕ) → i < length ids → slice_index ids i + 1 < 2 ^ 32
  pub fresh : (i : ℕ) → i < length ids → slot_at old (slice_index ids i) ≡ None
  pub put : (i : ℕ) → i < length ids → slot_at new (slice_index ids i) ≡ Some (cell i)
  pub distinct : (i j : ℕ) → i < length ids → j < length ids → slice_index ids i ≡ slice_index ids j → i ≡ j
  pub kept : (x : ℕ) → (slot_at new x ≡ slot_at old x) ⊎ Contains ids x

-- the number of each outer cell is below 2^32 - 1
abbrev pub AreSmall : List Facet → Type 0
AreSmall fan = (i y : ℕ) → i < length fan → fan_outer fan i ≡ Some y → y + 1 < 2 ^ 32

-- ---- outer cells adjacent to the boundary

-- the outer cell y has boundary facet i in the other direction, and new cell i is its neighbor at that side
pub record IsNamed (a b : Links) (fan : List Facet) (ids : List ℕ) (i y : ℕ) : Type 0 where
  pub side : ℕ
  pub side_in : side < 4
  pub turned : IsTurned (fan_facet fan i) (facet_of (a.at y) side)
  pub named : b.next y side ≡ Some (slice_index ids i)

-- side k of the outer cell x is a boundary facet in the other direction, and the new cell over that facet is the
-- neighbor there
pub record IsRenamed (a b : Links) (fan : List Facet) (ids : List ℕ) (x k : ℕ) : Type 0 where
  pub facet : ℕ
  pub facet_in : facet < length fan
  pub outer : fan_outer fan facet ≡ Some x
  pub turned : IsTurned (fan_facet fan facet) (facet_of (a.at x) k)
  pub named : b.next x k ≡ Some (slice_index ids facet)

pub record AreNamed (a b : Links) (fan : List Facet) (ids : List ℕ) (n : ℕ) : Type 0 where
  pub live : (x : ℕ) → b.is_live x ≡ a.is_live x
  pub same : (x : ℕ) → b.at x ≡ a.at x
  pub named : (i y : ℕ) → i < n → fan_outer fan i ≡ Some y → IsNamed a b fan ids i y
  pub kept : (x k : ℕ) → (b.next x k ≡ a.next x k) ⊎ IsRenamed a b fan ids x k

-- the tetrahedron t has the facet f in the other direction
pub record IsFacing (t : geo.Tetrahedron) (f : geo.DirectedFacet) : Type 0 where
  pub side : ℕ
  pub side_in : side < 4
  pub turned : IsTurned f (facet_of t side)

-- the cell y has the facet f in the other direction. The cell id became the neighbor of y at that side, and nothing
-- else has changed
pub record IsNaming (a b : Links) (f : geo.DirectedFacet) (y id : ℕ) : Type 0 where
  pub side : ℕ
  pub side_in : side < 4
  pub turned : IsTurned f (facet_of (a.at y) side)
  pub written : IsSideWritten a b y side id

-- each outer cell is live and has its boundary facet in the other direction
pub record AreFacing (a : Links) (fan : List Facet) : Type 0 where
  pub live : (i y : ℕ) → i < length fan → fan_outer fan i ≡ Some y → IsLive a y
  pub facing : (i y : ℕ) → i < length fan → fan_outer fan i ≡ Some y → IsFacing (a.at y) (fan_facet fan i)

-- ---- edges

-- x is one of the three edges of some boundary facet, with the new cell over that facet and its side (`edge_of`)
pub record IsFanEdge (fan : List Facet) (ids : List ℕ) (x : Edge) : Type 0 where
  pub facet : ℕ
  pub opposite : ℕ
  pub facet_in : facet < length fan
  pub opposite_in : opposite < 3
  pub start_is : x.start ≡ edge_start (fan_facet fan facet) opposite
  pub end_is : x.end ≡ edge_end (fan_facet fan facet) opposite
  pub cell_is : x.cell ≡ slice_index ids facet
  pub side_is : x.side ≡ opposite

-- the edge of boundary facet i opposite to its vertex e, with the side e of new cell i, which has that edge
abbrev pub edge_of : List Facet → List ℕ → (i e : ℕ) → Edge
edge_of fan ids i e =
    record { start = edge_start (fan_facet fan i) e; end = edge_end (fan_facet fan i) e; cell = slice_index ids i; side = e }

-- the edges of the first n facets, one facet after another
pub record AreFanEdges (fan : List Facet) (ids : List ℕ) (edges : List Edge) (n : ℕ) : Type 0 where
  pub count : length edges ≡ 3 * n
  pub at : (i e : ℕ) → i < n → e < 3 → edge_at edges (3 * i + e) ≡ edge_of fan ids i e

-- the list of edges has the reverse of the edge x
pub record HasReverse (edges : List Edge) (x : Edge) : Type 0 where
  pub reverse : Edge
  pub listed : Contains edges reverse
  pub start_is : reverse.start ≡ x.end
  pub end_is : reverse.end ≡ x.start

-- the list has the reverse of the edge x, and the new cell of the reverse is the neighbor of the new cell of x at the
-- side of x
pub record IsJoinedAt (b : Links) (edges : List Edge) (x : Edge) : Type 0 where
  pub reverse : HasReverse edges x
  pub named : b.next x.cell x.side ≡ Some reverse.reverse.cell

pub record AreJoined (a b : Links) (edges : List Edge) (n : ℕ) : Type 0 where
  pub live : (x : ℕ) → b.is_live x ≡ a.is_live x
  pub same : (x : ℕ) → b.at x ≡ a.at x
  pub joined : (m : ℕ) (x : Edge) → m < n → slice_index_or edges m x ≡ x → m < length edges → IsJoinedAt b edges x
  pub others : (y k : ℕ) → ((x : Edge) → Contains edges x → x.cell ≡ y → x.side ≡ k → ⊥) → b.next y k ≡ a.next y k

-- a precondition for links between new cells: each edge has one reverse in the list (`ArePairs`), no side has two
-- edges, and the new cells are live
pub record CanJoinEdges (a : Links) (edges : List Edge) : Type 0 where
  pub pairs : ArePairs edges
  pub once : (x y : Edge) → Contains edges x → Contains edges y → x.cell ≡ y.cell → x.side ≡ y.side
      → (x.start ≡ y.start) × (x.end ≡ y.end)
  pub live : (x : Edge) → Contains edges x → IsLive a x.cell
  pub small : (x : Edge) → Contains edges x → x.cell + 1 < 2 ^ 32
  pub side_in : (x : Edge) → Contains edges x → x.side < 4

-- ---- all new cells

-- what is asked of a boundary over which cells are put
pub record CanGrow (a : Links) (fan : List Facet) : Type 0 where
  pub small : AreSmall fan
  pub facing : AreFacing a fan
  pub once : (i j : ℕ) → i < length fan → j < length fan → IsRotated (fan_facet fan i) (fan_facet fan j) → i ≡ j
  pub edges : HasPairedEdges fan
  pub fits : (i e : ℕ) → i < length fan → (edge_start (fan_facet fan i) e < 2 ^ 32) × (edge_end (fan_facet fan i) e < 2 ^ 32)
  pub apart : (i e d : ℕ) → i < length fan → e < 3 → d < 3 → edge_start (fan_facet fan i) e ≡ edge_start (fan_facet fan i) d
      → e ≡ d
  pub ends : (i e : ℕ) → i < length fan → edge_start (fan_facet fan i) e ≢ edge_end (fan_facet fan i) e

-- at side e, the neighbor of new cell i is the new cell over the boundary facet that has the same edge in the other
-- direction
pub record IsMated (b : Links) (fan : List Facet) (ids : List ℕ) (i e : ℕ) : Type 0 where
  pub mate : ℕ
  pub side : ℕ
  pub mate_in : mate < length fan
  pub side_in : side < 3
  pub start_is : edge_start (fan_facet fan mate) side ≡ edge_end (fan_facet fan i) e
  pub end_is : edge_end (fan_facet fan mate) side ≡ edge_start (fan_facet fan i) e
  pub named : b.next (slice_index ids i) e ≡ Some (slice_index ids mate)

pub record IsGrown (a b : Links) (fan : List Facet) (p : ℕ) (ids : List ℕ) : Type 0 where
  pub fresh : (x : ℕ) → Contains ids x → IsLive a x → ⊥
  pub stays : (x : ℕ) → IsLive a x → IsLive b x
  pub same : (x : ℕ) → IsLive a x → b.at x ≡ a.at x
  pub made : (i : ℕ) → i < length fan → IsLive b (slice_index ids i)
  pub made_at : (i : ℕ) → i < length fan → b.at (slice_index ids i) ≡ over (fan_facet fan i) p
  pub only : (x : ℕ) → IsLive b x → IsLive a x ⊎ ((i : ℕ) × (i < length fan) × (slice_index ids i ≡ x))
  pub outer : (i : ℕ) → i < length fan → b.next (slice_index ids i) 3 ≡ fan_outer fan i
  pub named : (i y : ℕ) → i < length fan → fan_outer fan i ≡ Some y → IsNamed a b fan ids i y
  pub kept : (x k : ℕ) → IsLive a x → (b.next x k ≡ a.next x k) ⊎ IsRenamed a b fan ids x k
  pub inner : (i e : ℕ) → i < length fan → e < 3 → IsMated b fan ids i e

-- ---- incident cells

-- the cell id became the incident cell of the first n vertices of t. Other vertices of t have this or their earlier
-- incident cell, all others their earlier one
pub record IsKeptAt (old new : List ℕ) (t : geo.Tetrahedron) (id n : ℕ) : Type 0 where
  pub count : length new ≡ length old
  pub each : (u : ℕ) → (slice_index new u ≡ slice_index old u) ⊎ ((slice_index new u ≡ id) × IsVertexOf t u)
  pub done : (k : ℕ) → k < n → k < 4 → slice_index new (vertex_of t k) ≡ id

-- the incident cell of the vertex u is a new cell that has u
pub record IsKeptNew (kept : List ℕ) (fan : List Facet) (ids : List ℕ) (p u : ℕ) : Type 0 where
  pub facet : ℕ
  pub facet_in : facet < length fan
  pub is : slice_index kept u ≡ slice_index ids facet
  pub has : IsVertexOf (over (fan_facet fan facet) p) u

pub record AreKeptNew (old new : List ℕ) (fan : List Facet) (ids : List ℕ) (p n : ℕ) : Type 0 where
  pub count : length new ≡ length old
  pub each : (u : ℕ) → (slice_index new u ≡ slice_index old u) ⊎ IsKeptNew new fan ids p u
  pub done : (i k : ℕ) → i < n → k < 4 → IsKeptNew new fan ids p (vertex_of (over (fan_facet fan i) p) k)

-- vertex k of the cell id is a vertex of a live cell that is not in old, if its incident cell is id
abbrev pub IsKeeperHeld : (links : Links) (old kept : List ℕ) (id k : ℕ) → Type 0
IsKeeperHeld links old kept id k =
    slice_index kept (vertex_of (links.at id) k) ≡ id → IsHeld links old (vertex_of (links.at id) k)

-- the cell id is live, not among `old`, and has the vertex u
pub record IsOutsideWith (links : Links) (old : List ℕ) (u id : ℕ) : Type 0 where
  pub live : IsLive links id
  pub outside : ¬ Contains old id
  pub has : IsVertexOf (links.at id) u

-- the cell id is no longer the incident cell of its first n vertices. Each changed incident cell is live, not among
-- `old`, and has the vertex
pub record IsMendedAt (links : Links) (old kept new : List ℕ) (id n : ℕ) : Type 0 where
  pub count : length new ≡ length kept
  pub each : (u : ℕ) → (slice_index new u ≡ slice_index kept u) ⊎ IsOutsideWith links old u (slice_index new u)
  pub done : (k : ℕ) → k < n → k < 4 → slice_index new (vertex_of (links.at id) k) ≢ id

-- the vertices of the first n cells of old have another
pub record AreMended (links : Links) (old kept new : List ℕ) (n : ℕ) : Type 0 where
  pub count : length new ≡ length kept
  pub each : (u : ℕ) → (slice_index new u ≡ slice_index kept u) ⊎ IsOutsideWith links old u (slice_index new u)
  pub done : (j k : ℕ) → j < n → j < length old → k < 4
      → slice_index new (vertex_of (links.at (slice_index old j)) k) ≢ slice_index old j

-- ---- cells taken out

pub record AreOut (old : List ℕ) (slots new : List (Option Cell)) (n : ℕ) : Type 0 where
  pub gone : (j : ℕ) → j < n → j < length old → slot_at new (slice_index old j) ≡ None
  pub kept : (x : ℕ) → (¬ Contains old x) → slot_at new x ≡ slot_at slots x
  pub left : (j : ℕ) → n ≤ j → j < length old → slot_at new (slice_index old j) ≡ slot_at slots (slice_index old j)
