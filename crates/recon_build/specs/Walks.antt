-- Rows in the order of a pass over the store's cells.
--
--   row_if_inside inside e               the row for a cell, if it is inside
--   flow_if_any amounts e k              the row of the flow over its side k, if that is not 0
--   flows_if_any amounts e               those of its four sides
--   sink_if_any amounts e                the row of the flow into its sink, if that is not 0
--   all_inside, all_flows, all_sinks     those of all live cells, by ascending id
use Rattle.std.specs.Prelude.{ℕ, ◌*◌, ◌+◌, ◌++◌, ◌==◌, Bool, not, Option, List, [], ◌∷◌, slice_index, if◌then◌else◌}
use Rattle.std.specs.List.{flat_map}
use Rattle.slab.specs.Slab.{entries_from}
use Rattle.certificate.specs.declared.certificate.FlowRow.{FlowRow}
use Rattle.certificate.specs.declared.certificate.SinkRow.{SinkRow}
use Rattle.flow_net.specs.Nets.{flag_at}
use Rattle.solution.specs.Solutions.{flow_row, sink_row}
use Rattle.tetra_store.specs.declared.link.Cell.{Cell}
use Rattle.tetra_store.specs.Links.{tetrahedron_from}
use Rattle.cell_net.specs.CellRows.{facet_row, risen, row_from}

-- its vertices in ascending order
unfoldable pub row_if_inside : List Bool → ℕ × Cell → List (List ℕ)
row_if_inside inside e = if flag_at inside e.0 then row_from (risen (tetrahedron_from e.1.v)) ∷ [] else []

-- its facet as the cell has it, the least vertex first, and the amount at 4 * id + k
unfoldable pub flow_if_any : List ℕ → ℕ × Cell → ℕ → List FlowRow
flow_if_any amounts e k =
    let amount : ℕ = slice_index amounts (4 * e.0 + k) in
    if not (amount == 0) then flow_row (facet_row (tetrahedron_from e.1.v) k) amount ∷ [] else []

-- in their order
abbrev pub flows_if_any : List ℕ → ℕ × Cell → List FlowRow
flows_if_any amounts e = flow_if_any amounts e 0 ++ (flow_if_any amounts e 1 ++ (flow_if_any amounts e 2 ++ flow_if_any amounts e 3))

-- its vertices in ascending order, and the amount at its id
unfoldable pub sink_if_any : List ℕ → ℕ × Cell → List SinkRow
sink_if_any amounts e =
    let amount : ℕ = slice_index amounts e.0 in
    if not (amount == 0) then sink_row (row_from (risen (tetrahedron_from e.1.v))) amount ∷ [] else []

-- a row for each that is inside
abbrev pub all_inside : List Bool → List (Option Cell) → List (List ℕ)
all_inside inside slots = flat_map (row_if_inside inside) (entries_from 0 slots)

-- a row for each amount on a side
abbrev pub all_flows : List ℕ → List (Option Cell) → List FlowRow
all_flows amounts slots = flat_map (flows_if_any amounts) (entries_from 0 slots)

-- a row for each amount into a sink
abbrev pub all_sinks : List ℕ → List (Option Cell) → List SinkRow
all_sinks amounts slots = flat_map (sink_if_any amounts) (entries_from 0 slots)
