-- The sides between outside and inside cells, as a relation.
--
--   IsCutSide slots outside x          a side of a live outside cell whose adjacent cell is inside
--   AreCutSides slots outside sides    exactly these sides, each once
use Rattle.std.specs.Prelude.{ℕ, ◌≡◌, ◌<◌, Bool, true, false, List, Option, Some, Contains}
use Rattle.flow_net.specs.Nets.{flag_at}
use Rattle.tetra_store.specs.declared.link.Cell.{Cell}
use Rattle.tetra_store.specs.Links.{links_of, IsLive}
use Rattle.cell_net.specs.CellRows.{facet_row}
use Rattle.cell_net.specs.Parts.{number_of_side, AreDistinctBy}
use Rattle.cell_net.specs.declared.sides.Side.{Side}

-- of a live cell, with its facet as the cell has it, the least vertex first
pub record IsCutSide (slots : List (Option Cell)) (outside : List Bool) (x : Side) : Type 0 where
  pub live : IsLive (links_of slots) x.id
  pub own : flag_at outside x.id ≡ true
  pub in_range : x.side < 4
  pub other : ℕ
  pub next : (links_of slots).next x.id x.side ≡ Some other
  pub inside : flag_at outside other ≡ false
  pub facet_is : x.facet ≡ facet_row ((links_of slots).at x.id) x.side

-- each is one, each such side is there, and no side is there twice
pub record AreCutSides (slots : List (Option Cell)) (outside : List Bool) (sides : List Side) : Type 0 where
  pub each : (x : Side) → Contains sides x → IsCutSide slots outside x
  pub all : (id k other : ℕ) → k < 4 → (links_of slots).next id k ≡ Some other → flag_at outside id ≡ true
      → flag_at outside other ≡ false
      → (x : Side) × Contains sides x × (x.id ≡ id) × (x.side ≡ k)
  pub once : AreDistinctBy number_of_side sides
