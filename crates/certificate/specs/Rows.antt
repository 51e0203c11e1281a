-- The rows of a certificate.
--
--   IsCellRow c                         four ascending vertex numbers
--   IsAmount n                          an amount of at least 1
--   IsFlowRow r                         a facet, and an amount of at least 1
--   IsSinkRow r                         a cell, and an amount of at least 1
--   cell_order, flow_order, sink_order  the keys by which the rows of the three lists ascend
use Rattle.std.specs.Prelude.{ℕ, ◌-◌, ◌<◌, ◌≤◌, ◌^◌, Option, Some, List, [], ◌∷◌}
use Rattle.geo_sign.specs.Numbers.{IsBetween}
use Rattle.geo_sign.specs.Numbers.{IsFacetRow}
use Rattle.certificate.specs.declared.certificate.FlowRow.{FlowRow}
use Rattle.certificate.specs.declared.certificate.SinkRow.{SinkRow}

-- four ascending vertex numbers
abbrev pub IsCellRow : List ℕ → Type 0
IsCellRow (a ∷ b ∷ c ∷ d ∷ []) = (a < b) × (b < c) × (c < d) × (d < 2 ^ 32)
IsCellRow _ = ⊥

-- an amount of at least 1
abbrev pub IsAmount : ℕ → Type 0
IsAmount = IsBetween 1 (2 ^ 64 - 1)

-- a facet, and an amount of at least 1
pub record IsFlowRow (r : FlowRow) : Type 0 where
  pub facet : IsFacetRow r.facet
  pub some : 1 ≤ r.amount
  pub fits : r.amount < 2 ^ 64

-- a cell, and an amount of at least 1
pub record IsSinkRow (r : SinkRow) : Type 0 where
  pub cell : IsCellRow r.cell
  pub some : 1 ≤ r.amount
  pub fits : r.amount < 2 ^ 64

-- cells are sorted by themselves, rows of the flow by their facets, rows of sinks by their cells
abbrev pub cell_order : Option (List ℕ → List ℕ)
cell_order = Some (λ c. c)

abbrev pub flow_order : Option (FlowRow → List ℕ)
flow_order = Some (λ r. r.facet)

abbrev pub sink_order : Option (SinkRow → List ℕ)
sink_order = Some (λ r. r.cell)
