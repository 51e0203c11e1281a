-- Rows of a certificate, and the numbers by which they are sorted.
--
--   key_of_flow row, key_of_sink row     the number of its facet, and of its cell
--   HasFlowRows slots amounts rows       they are those of the flow given by amounts at the numbers of sides, in some order
use Rattle.std.specs.Prelude.{ℕ, Bool, Option, List, slice_index}
use Rattle.std.specs.List.Sorted.{IsPermutation}
use Rattle.certificate.specs.declared.certificate.FlowRow.{FlowRow}
use Rattle.certificate.specs.declared.certificate.SinkRow.{SinkRow}
use Rattle.solution.specs.Solutions.{flow_rows}
use Rattle.tetra_store.specs.declared.link.Cell.{Cell}
use Rattle.cell_net.specs.ByNumber.{SaysOfSides, IsZeroElsewhere}
use Rattle.cell_net.specs.Gathered.{row_key, facet_key}
use Rattle.cell_net.specs.StoredComplexes.{stored_facets}

abbrev pub key_of_flow : FlowRow → ℕ
key_of_flow row = facet_key row.facet

abbrev pub key_of_sink : SinkRow → ℕ
key_of_sink row = row_key row.cell

-- for any cells fixed outside, and any flow with the same amounts on facets
abbrev pub HasFlowRows : List (Option Cell) → List ℕ → List FlowRow → Type 0
HasFlowRows slots amounts rows =
    (fixed : List Bool) (on : List ℕ → ℕ) → SaysOfSides slots fixed (slice_index amounts) on
    → IsZeroElsewhere slots fixed (slice_index amounts) → IsPermutation (flow_rows (stored_facets fixed slots) on) rows
