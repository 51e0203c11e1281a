-- Taking cells out, and putting in cells over the boundary of the conflict region (the cells taken out).
--
--   fan_facet fan i, fan_outer fan i    facet number i of a boundary, and the adjacent cell outside
--   IsFan links old fan                 the boundary of the cells `old`: exactly the directed facets whose neighbor is
--                                       not among these cells, each once, and each with that neighbor
--   HasPairedEdges fan                  each directed edge of the boundary is there once, and so is its reverse
--   IsInFan fan u                       u is a vertex of a boundary facet
--   IsHeld links old u                  u is a vertex of a live cell that is not in old
--   CanReplace s old fan p              the precondition of `replace`: `old` are distinct live cells and `fan` is their
--                                       boundary; p is not inserted, and on the positive side of each boundary facet;
--                                       each inserted vertex is on the boundary or in another cell; `spare` is enough
--                                       for the new cells
--   IsOver links fan p id               the cell of this number is over a boundary facet: the facet with the apex p
--   IsReplaced s t old fan p            what `replace` does, from s to t. The live cells of t are those of s that are
--                                       not among `old`, with their vertices, and one over each boundary facet. Points
--                                       stay, only the flag of p is set, and `spare` falls by at most the number of
--                                       boundary facets
use Rattle.std.specs.Prelude.{ℕ, ◌≡◌, ◌<◌, ◌≤◌, ◌+◌, ◌⊎◌, ◌<ℤ◌, pos, true, false, List, [], Option, Some, None, length}
use Rattle.std.specs.Prelude.{slice_index, slice_index_or, slice_set, Contains}
use Rattle.geo_sign.specs.Tetrahedron as geo
use Rattle.geo_sign.specs.Tetrahedron.{facet_of, facet_at, IsRotated}
use Rattle.geo_sign.specs.Edges.{edge_start, edge_end, over}
use Rattle.geo_sign.specs.Vertices.{Has, orientation_of}
use Rattle.tetra_store.specs.declared.fan.Facet.{Facet}
use Rattle.geo_sign.specs.Writings.{IsVertexOf}
use Rattle.tetra_store.specs.Links.{Links, links_of, IsLive}
use Rattle.tetra_store.specs.Store.{Store, vertices_of}

-- a facet where there is none
abbrev pub no_facet : Facet
no_facet = record { v = []; outer = None }

abbrev pub fan_facet : List Facet → ℕ → geo.DirectedFacet
fan_facet fan i = facet_at (slice_index_or fan i no_facet).v

abbrev pub fan_outer : List Facet → ℕ → Option ℕ
fan_outer fan i = (slice_index_or fan i no_facet).outer

-- there is no cell, or it is not among `old`
abbrev pub IsOutside : List ℕ → Option ℕ → Type 0
IsOutside old None = Unit {0}
IsOutside old (Some id) = ¬ Contains old id

-- f is a facet of a cell of `old`, with the neighbor `outer`, which is outside
pub record IsRim (links : Links) (old : List ℕ) (f : geo.DirectedFacet) (outer : Option ℕ) : Type 0 where
  pub cell : ℕ
  pub side : ℕ
  pub listed : Contains old cell
  pub in_range : side < 4
  pub rotated : IsRotated (facet_of (links.at cell) side) f
  pub neighbor : links.next cell side ≡ outer
  pub outside : IsOutside old outer

-- The list holds exactly the directed facets of old whose neighbor is not in old, each once, and with each that neighbor.
pub record IsFan (links : Links) (old : List ℕ) (fan : List Facet) : Type 0 where
  pub rim : (i : ℕ) → i < length fan → IsRim links old (fan_facet fan i) (fan_outer fan i)
  pub all : (id k : ℕ) → Contains old id → k < 4 → IsOutside old (links.next id k)
      → (i : ℕ) × (i < length fan) × IsRotated (facet_of (links.at id) k) (fan_facet fan i)
  pub once : (i j : ℕ) → i < length fan → j < length fan → IsRotated (fan_facet fan i) (fan_facet fan j) → i ≡ j

-- a directed edge of the boundary, from u to w
pub record HasEdge (fan : List Facet) (u w : ℕ) : Type 0 where
  pub facet : ℕ
  pub opposite : ℕ
  pub facet_in : facet < length fan
  pub opposite_in : opposite < 3
  pub start_is : edge_start (fan_facet fan facet) opposite ≡ u
  pub end_is : edge_end (fan_facet fan facet) opposite ≡ w

-- Each directed edge of the boundary is in one facet alone, and so is its reverse.
pub record HasPairedEdges (fan : List Facet) : Type 0 where
  pub turned : (i e : ℕ) → i < length fan → e < 3 → HasEdge fan (edge_end (fan_facet fan i) e) (edge_start (fan_facet fan i) e)
  pub once : (i e j d : ℕ) → i < length fan → e < 3 → j < length fan → d < 3
      → edge_start (fan_facet fan i) e ≡ edge_start (fan_facet fan j) d
      → edge_end (fan_facet fan i) e ≡ edge_end (fan_facet fan j) d → i ≡ j

-- u is a vertex of a boundary facet
pub record IsInFan (fan : List Facet) (u : ℕ) : Type 0 where
  pub facet : ℕ
  pub opposite : ℕ
  pub facet_in : facet < length fan
  pub opposite_in : opposite < 3
  pub is : edge_start (fan_facet fan facet) opposite ≡ u

-- u is a vertex of a live cell that is not in the list
pub record IsHeld (links : Links) (old : List ℕ) (u : ℕ) : Type 0 where
  pub cell : ℕ
  pub live : IsLive links cell
  pub outside : ¬ Contains old cell
  pub has : IsVertexOf (links.at cell) u

-- what is asked where the cells old are taken out and cells with p are put over their boundary
pub record CanReplace (s : Store) (old : List ℕ) (fan : List Facet) (p : ℕ) : Type 0 where
  pub some_cell : 0 < length old
  pub live : (id : ℕ) → Contains old id → IsLive (links_of s.slots) id
  pub distinct : (j k : ℕ) → j < length old → k < length old → slice_index old j ≡ slice_index old k → j ≡ k
  pub some_facet : 0 < length fan
  pub rim : IsFan (links_of s.slots) old fan
  pub before : (i : ℕ) → i < length fan
      → pos 0 <ℤ orientation_of (vertices_of s) (fan_facet fan i).a (fan_facet fan i).b (fan_facet fan i).c p
  pub edges : HasPairedEdges fan
  pub below : p < length s.points
  pub out : slice_index_or s.inserted p false ≡ false
  pub held : (u : ℕ) → Has (vertices_of s) u → IsInFan fan u ⊎ IsHeld (links_of s.slots) old u
  pub room : length fan ≤ s.spare

-- a live cell over a boundary facet, with p
pub record IsOver (links : Links) (fan : List Facet) (p id : ℕ) : Type 0 where
  pub facet : ℕ
  pub facet_in : facet < length fan
  pub is : links.at id ≡ over (fan_facet fan facet) p

-- The cells old are out, and there is one over each boundary facet, with p. All other cells keep their numbers and vertices,
-- all vertices their points, and all but p whether they are inserted.
pub record IsReplaced (s t : Store) (old : List ℕ) (fan : List Facet) (p : ℕ) : Type 0 where
  pub points : t.points ≡ s.points
  pub inserted : t.inserted ≡ slice_set s.inserted p true
  pub stays : (id : ℕ) → IsLive (links_of s.slots) id → ¬ Contains old id
      → IsLive (links_of t.slots) id × ((links_of t.slots).at id ≡ (links_of s.slots).at id)
  pub comes : (i : ℕ) → i < length fan
      → (id : ℕ) × IsLive (links_of t.slots) id × ((links_of t.slots).at id ≡ over (fan_facet fan i) p)
  pub only : (id : ℕ) → IsLive (links_of t.slots) id
      → (IsLive (links_of s.slots) id × (¬ Contains old id)) ⊎ IsOver (links_of t.slots) fan p id
  pub spare : s.spare ≤ t.spare + length fan
