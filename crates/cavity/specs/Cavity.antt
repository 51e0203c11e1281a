-- The cavity of a vertex.
--
--   IsCavity s p cells fan    the cells are exactly the live ones in conflict with p, each once. Each boundary facet is
--                             `IsOnFan` of `cell_laws`, so by `FanLaw` it is a facet of a cell with p after p is
--                             inserted. If `spare` is enough, `replace` may be called with these, so the boundary is
--                             complete
use Rattle.std.specs.Prelude.{ℕ, ◌<◌, ◌≤◌, List, length, Contains}
use Rattle.tetra_store.specs.declared.fan.Facet.{Facet}
use Rattle.tetra_store.specs.Links.{links_of, IsLive}
use Rattle.tetra_store.specs.Store.{Store, vertices_of}
use Rattle.tetra_store.specs.Fan.{fan_facet, CanReplace}
use Rattle.geo_sign.specs.Boxes.{IsInConflict}
use Rattle.cell_laws.specs.Fans.{IsOnFan}

-- The cells are exactly those in conflict with p, each once (`can_replace` states that they are distinct). Over each facet of
-- the boundary there is a Delaunay cell with p. As soon as there is memory, however much the store has taken, cells over the
-- boundary can replace these.
pub record IsCavity (s : Store) (p : ℕ) (cells : List ℕ) (fan : List Facet) : Type 0 where
  pub live : (id : ℕ) → Contains cells id → IsLive (links_of s.slots) id
  pub conflict : (id : ℕ) → Contains cells id → IsInConflict (vertices_of s) p ((links_of s.slots).at id)
  pub all : (id : ℕ) → IsLive (links_of s.slots) id → IsInConflict (vertices_of s) p ((links_of s.slots).at id)
      → Contains cells id
  pub rim : (i : ℕ) → i < length fan → IsOnFan (vertices_of s) p (fan_facet fan i).a (fan_facet fan i).b (fan_facet fan i).c
  pub can_replace : (room capacity : ℕ) → length fan ≤ room
      → CanReplace (record s { spare = room; capacity = capacity }) cells fan p
