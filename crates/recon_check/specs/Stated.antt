-- What the rows of a certificate state about linked cells, by the numbers that these have in the store: that of a cell is its id, that
-- of side k of it 4 * id + k.
--
--   IsFlaggedFor s slots fixed             the live cells of the store are all cells of the scene, and the flags are
--                                          those of the cells that are fixed outside
--   IsSaid is_there key_at at says nothing
--                                          at the number of each cell or side that exists, `at` has what `says` gives
--                                          for its key. At all other numbers `at` has the value `nothing`
--   IsStatedBy slots fixed claim stated    labels and amounts by number are those that the rows of a certificate state
--                                          (`IsSaid`), and each row is about a live cell or a side with a free adjacent
--                                          cell
use Rattle.std.specs.Prelude.{ℕ, ◌≡◌, ◌*◌, Bool, true, false, Option, List, length, slice_index}
use Rattle.certificate.specs.Certificates.{Claim}
use Rattle.flow_net.specs.Nets.{flag_at}
use Rattle.solution.specs.Solutions.{flow_on, sink_at}
use Rattle.tetra_store.specs.Links.{links_of}
use Rattle.tetra_store.specs.declared.link.Cell.{Cell}
use Rattle.visibility.specs.Scenes.{Scene}
use Rattle.cell_net.specs.Counts.{AreCountsOf, row_of}
use Rattle.recon_check.specs.Claims.{is_inside, flow_facets, sink_cells}
use Rattle.recon_check.specs.Lookups.{is_open_side, side_facet, AreNumbersOf}
use Rattle.recon_check.specs.declared.stated.Stated.{Stated}

-- the store and the flags are of counts of the scene, whatever these are
pub record IsFlaggedFor (s : Scene) (slots : List (Option Cell)) (fixed : List Bool) : Type 0 where
  pub crossed : List ℕ
  pub behind : List ℕ
  pub counts : AreCountsOf s slots crossed behind fixed

-- at the numbers of what is there what is said of its key, and at all others nothing
pub record IsSaid {X : Type 0} (is_there : ℕ → Bool) (key_at : ℕ → List ℕ) (at : ℕ → X) (says : List ℕ → X) (nothing : X)
    : Type 0 where
  pub there : (j : ℕ) → is_there j ≡ true → at j ≡ says (key_at j)
  pub elsewhere : (j : ℕ) → is_there j ≡ false → at j ≡ nothing

-- As many labels and sinks as flags, four amounts of sides for each. A number without a cell is outside and has amount 0. So
-- has a side whose adjacent cell is not free.
pub record IsStatedBy (slots : List (Option Cell)) (fixed : List Bool) (claim : Claim) (stated : Stated) : Type 0 where
  pub labels : length stated.labels.inside ≡ length fixed
  pub arcs : length stated.flow.on_arc ≡ 4 * length fixed
  pub sinks : length stated.flow.on_sink ≡ length fixed
  pub labels_say : IsSaid (links_of slots).is_live (row_of slots) (flag_at stated.labels.inside) (is_inside claim) false
  pub arcs_say : IsSaid (is_open_side slots fixed) (side_facet slots) (slice_index stated.flow.on_arc) (flow_on claim) 0
  pub sinks_say : IsSaid (links_of slots).is_live (row_of slots) (slice_index stated.flow.on_sink) (sink_at claim) 0
  pub cells_are : AreNumbersOf (links_of slots).is_live (row_of slots) claim.inside stated.cells.items
  pub sides_are : AreNumbersOf (is_open_side slots fixed) (side_facet slots) (flow_facets claim) stated.sides.items
  pub sinks_are : AreNumbersOf (links_of slots).is_live (row_of slots) (sink_cells claim) stated.at_sinks.items
