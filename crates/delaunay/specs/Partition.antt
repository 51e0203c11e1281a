-- Linked cells partition the box.
--
--   IsPartition s    the cells fill the box without overlap. `covered`: each place of the box lies in a live cell.
--                    `apart`: a place strictly inside one lies in no other. `across`: a facet on a wall has no neighbor
--                    in the store, and each other facet has exactly one live adjacent cell, which the store names there
--   PartitionLaw     if the cells of a store are the Delaunay cells of its inserted vertices, they are a partition of
--                    the box (`IsPartition`)
use Rattle.std.specs.Prelude.{ℕ, ◌≡◌, ◌<◌, ◌⊎◌, Some, None}
use Rattle.geo_sign.specs.Rational.{RationalPoint}
use Rattle.geo_sign.specs.Tetrahedron.{facet_of}
use Rattle.geo_sign.specs.Vertices.{IsWall}
use Rattle.tetra_store.specs.Delaunay.{IsDelaunay}
use Rattle.tetra_store.specs.Links.{links_of, IsLive, IsOnlyAcross}
use Rattle.tetra_store.specs.Store.{IsStore, Store, vertices_of}
use Rattle.geo_sign.specs.Places.{IsInBox, IsLyingIn, IsStrictlyIn}

-- coverage, uniqueness, and adjacency
pub record IsPartition (s : Store) : Type 0 where
  -- each position in the box lies in a cell
  pub covered : (q : RationalPoint) → IsInBox q
      → (id : ℕ) × IsLive (links_of s.slots) id × IsLyingIn (vertices_of s) ((links_of s.slots).at id) q
  -- a position strictly inside a cell lies in no other
  pub apart : (x y : ℕ) (q : RationalPoint) → IsLive (links_of s.slots) x → IsLive (links_of s.slots) y
      → IsLyingIn (vertices_of s) ((links_of s.slots).at x) q → IsStrictlyIn (vertices_of s) ((links_of s.slots).at y) q → x ≡ y
  -- a facet is on a wall and has no adjacent cell, or has exactly one
  pub across : (id k : ℕ) → IsLive (links_of s.slots) id → k < 4 →
      (((links_of s.slots).next id k ≡ None) × IsWall (vertices_of s) (facet_of ((links_of s.slots).at id) k)) ⊎
      ((¬ IsWall (vertices_of s) (facet_of ((links_of s.slots).at id) k))
      × ((y : ℕ) × ((links_of s.slots).next id k ≡ Some y) × IsOnlyAcross (links_of s.slots) id k y))

-- for each store that keeps the type invariant, however its cells were created
abbrev pub PartitionLaw : Type 0
PartitionLaw = (s : Store) → IsStore s → IsDelaunay (vertices_of s) (links_of s.slots) → IsPartition s
