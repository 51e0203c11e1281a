-- What the rows of a certificate state about the cells and facets of a scan.
--
--   is_among_rows rows row       the row is one of a list
--   is_inside claim row          the certificate has the cell as inside
--   flow_facets claim            the facets of its flow rows
--   sink_cells claim             the cells of its sink rows
--   IsStray keys rows k          row k is none of the keys
--   AreThere complex claim       each row is about a cell, or about a facet that has a capacity
--   IsFirstOf rows P row         the first of a list with a property
--   NoneOf rows P                none of a list has it
use Rattle.std.specs.Prelude.{ℕ, ◌≡◌, Bool, List, [], All, Contains, length, map, slice_index_or}
use Rattle.std.specs.List.{list_any}
use Rattle.std.specs.Str.{bytes_eq}
use Rattle.certificate.specs.Certificates.{Claim}
use Rattle.certificate.specs.declared.certificate.FlowRow.{FlowRow}
use Rattle.certificate.specs.declared.certificate.SinkRow.{SinkRow}
use Rattle.flow_net.specs.Firsts.{IsFirst}
use Rattle.visibility.specs.Complexes.{Complex}

-- the row is one of the list
abbrev pub is_among_rows : List (List ℕ) → List ℕ → Bool
is_among_rows rows row = list_any (λ other. bytes_eq other row) rows

-- the certificate has the cell as inside
abbrev pub is_inside : Claim → List ℕ → Bool
is_inside claim = is_among_rows claim.inside

-- the facets of the certificate's flow rows
abbrev pub flow_facets : Claim → List (List ℕ)
flow_facets claim = map (λ (row : FlowRow). row.facet) claim.flow

-- the cells of its sink rows
abbrev pub sink_cells : Claim → List (List ℕ)
sink_cells claim = map (λ (row : SinkRow). row.cell) claim.sink

-- row k is none of the keys
abbrev pub IsStray : (keys rows : List (List ℕ)) → ℕ → Type 0
IsStray keys rows k = ¬ Contains keys (slice_index_or rows k [])

-- each inside row and each sink row is about a cell, and each flow row about a facet that has a capacity
pub record AreThere (complex : Complex) (claim : Claim) : Type 0 where
  pub inside : All (Contains complex.cells) claim.inside
  pub flow : All (Contains complex.facets) (flow_facets claim)
  pub sink : All (Contains complex.cells) (sink_cells claim)

-- the first of the list with the property
pub record IsFirstOf (rows : List (List ℕ)) (P : List ℕ → Type 0) (row : List ℕ) : Type 0 where
  pub place : ℕ
  pub first : IsFirst (length rows) (λ k. P (slice_index_or rows k [])) place
  pub row_is : row ≡ slice_index_or rows place []

-- none of the list has the property
abbrev pub NoneOf : List (List ℕ) → (List ℕ → Type 0) → Type 0
NoneOf rows P = (row : List ℕ) → Contains rows row → ¬ P row
