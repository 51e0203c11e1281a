-- Linked cells by their numbers.
--
--   Links                     which numbers have a cell, its vertices, and its neighbor at each side
--   slot_at slots id          the cell with a number
--   tetrahedron_from v        the tetrahedron of a list of four numbers
--   links_of slots            the links of a list of slots
--   IsLive links id           the number has a cell
--   IsBack links id k z       the live cell z names the cell id back, at the opposite facet of side k of id
--   IsOnlyAcross links id k other
--                             `other` is the only live cell that has the facet of side k of the cell in the other
--                             direction, and it names the cell as its neighbor there
--   IsLinked v links          each cell is positively oriented over distinct inserted vertices; neighbors name each
--                             other at one facet in its two directions; exactly the sides on a wall have no neighbor;
--                             no directed facet is in two cells
use Rattle.std.specs.Prelude.{ℕ, ◌≡◌, ◌<◌, ◌<ℤ◌, pos, Bool, true, List, Option, Some, None, is_some, slice_index}
use Rattle.std.specs.Prelude.{slice_index_or}
use Rattle.geo_sign.specs.Tetrahedron.{Tetrahedron, tetrahedron, vertex_of, facet_of, IsRotated, IsTurned}
use Rattle.geo_sign.specs.Vertices.{Vertices, Has, orientation_of, IsWall}
use Rattle.tetra_store.specs.declared.link.Cell.{Cell}

pub record Links : Type 0 where
  pub is_live : ℕ → Bool
  pub at : ℕ → Tetrahedron
  pub next : ℕ → ℕ → Option ℕ

-- the cell with a number
abbrev pub slot_at : List (Option Cell) → ℕ → Option Cell
slot_at slots id = slice_index_or slots id None

-- four numbers from a list
abbrev pub tetrahedron_from : List ℕ → Tetrahedron
tetrahedron_from v = tetrahedron (slice_index v 0) (slice_index v 1) (slice_index v 2) (slice_index v 3)

-- a free slot is read as one vertex four times, which is no cell
abbrev pub vertices_in : Option Cell → Tetrahedron
vertices_in None = tetrahedron 0 0 0 0
vertices_in (Some c) = tetrahedron_from c.v

-- a free slot has no neighbors
abbrev pub next_in : Option Cell → ℕ → Option ℕ
next_in None k = None
next_in (Some c) k = slice_index_or c.next k None

abbrev pub links_of : List (Option Cell) → Links
links_of slots = record {
  is_live = λ id. is_some (slot_at slots id);
  at = λ id. vertices_in (slot_at slots id);
  next = λ id k. next_in (slot_at slots id) k;
}

abbrev pub IsLive : Links → ℕ → Type 0
IsLive links id = links.is_live id ≡ true

-- a live cell that has the facet of side k in the other direction, across which it names the cell back
pub record IsBack (links : Links) (id k other : ℕ) : Type 0 where
  pub live : IsLive links other
  pub side : ℕ
  pub in_range : side < 4
  pub turned : IsTurned (facet_of (links.at id) k) (facet_of (links.at other) side)
  pub named : links.next other side ≡ Some id

-- a live cell that has the facet of side k in the other direction, and no other live cell has
pub record IsOnlyAcross (links : Links) (id k other : ℕ) : Type 0 where
  pub back : IsBack links id k other
  pub only : (z m : ℕ) → IsLive links z → m < 4 → IsTurned (facet_of (links.at id) k) (facet_of (links.at z) m) → z ≡ other

-- Each cell is positively oriented over distinct vertices that are in. Neighbors name each other across the same facet in the
-- two directions. A facet has no neighbor exactly on a wall. No two cells have a directed facet in common.
pub record IsLinked (v : Vertices) (links : Links) : Type 0 where
  pub has : (id k : ℕ) → IsLive links id → k < 4 → Has v (vertex_of (links.at id) k)
  pub distinct : (id j k : ℕ) → IsLive links id → j < 4 → k < 4 → vertex_of (links.at id) j ≡ vertex_of (links.at id) k → j ≡ k
  pub positive : (id : ℕ) → IsLive links id
      → pos 0 <ℤ orientation_of v (links.at id).a (links.at id).b (links.at id).c (links.at id).d
  pub back : (id k other : ℕ) → IsLive links id → k < 4 → links.next id k ≡ Some other → IsBack links id k other
  pub walls : (id k : ℕ) → IsLive links id → k < 4 → links.next id k ≡ None → IsWall v (facet_of (links.at id) k)
  pub inner : (id k : ℕ) → IsLive links id → k < 4 → IsWall v (facet_of (links.at id) k) → links.next id k ≡ None
  pub apart : (x y j k : ℕ) → IsLive links x → IsLive links y → j < 4 → k < 4
      → IsRotated (facet_of (links.at x) j) (facet_of (links.at y) k) → x ≡ y
