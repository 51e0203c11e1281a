-- The best surface of a scan, and the certificate of its optimality.
--
--   stated about amount rows key    the amount of the row with this key, or 0
--   flow_on claim, sink_at claim    the amounts that a certificate's own rows state for a facet and for a sink, 0 if
--                                   there is no row
--   listed make keys amounts        a row for each key whose amount is not 0
--   flow_rows, sink_rows            these rows for facets and for cells
--   HasCounts                       a certificate has the scan's numbers of points, scanners and sights, and the
--                                   visibility weight and the area weight
--   IsCertificate                   a certificate states these labels and a flow whose value is their cost
--   IsSolution scan settings mesh claim
--                                   the main definition, over all cells and all facets with a capacity. The mesh has
--                                   the facets of outside cells with an inside adjacent cell, in the minimum cut with
--                                   the smallest inside. The certificate has the numbers of points, scanners and
--                                   sights, the two weights, the cost of these labels, exactly the inside cells, and a
--                                   valid flow whose value is the cost
--   surface_of mesh                 a mesh's points and faces
use Rattle.std.specs.Prelude.{ℕ, ◌≡◌, ◌==◌, ◌++◌, not, Bool, List, [], ◌∷◌, length, map, filter, if◌then◌else◌}
use Rattle.std.specs.Str.{bytes_eq}
use Rattle.certificate.specs.Certificates.{Claim}
use Rattle.certificate.specs.declared.certificate.FlowRow.{FlowRow}
use Rattle.certificate.specs.declared.certificate.SinkRow.{SinkRow}
use Rattle.flow_net.specs.declared.votes.Settings.{Settings}
use Rattle.geo_sign.specs.Vertices.{corners, boxed_vertices}
use Rattle.mesh.specs.Meshes.{Surface, mesh_of}
use Rattle.mesh.specs.declared.mesh.Mesh.{Mesh}
use Rattle.scan_rows.specs.Shown.{Shown}
use Rattle.visibility.specs.Scenes.{Scene}
use Rattle.visibility.specs.Complexes.{Complex}
use Rattle.visibility.specs.Votes.{IsComplexOf}
use Rattle.visibility.specs.Cuts.{cost, cut_facets, IsLeastInside}
use Rattle.visibility.specs.Flows.{value, IsValidFlow}
use Rattle.solution.specs.Scans.{points_of, scene_of_scan}

-- the amount of the first row for a cell or facet, or 0
abbrev pub stated : {Row : Type 0} → (Row → List ℕ) → (Row → ℕ) → List Row → List ℕ → ℕ
stated about amount [] key = 0
stated about amount (row ∷ rows) key = if bytes_eq (about row) key then amount row else stated about amount rows key

-- the flow over a facet by the certificate's own rows
abbrev pub flow_on : Claim → List ℕ → ℕ
flow_on claim = stated (λ (row : FlowRow). row.facet) (λ (row : FlowRow). row.amount) claim.flow

-- the flow from a cell into its sink by the certificate's own rows
abbrev pub sink_at : Claim → List ℕ → ℕ
sink_at claim = stated (λ (row : SinkRow). row.cell) (λ (row : SinkRow). row.amount) claim.sink

-- a row for each of these cells or facets whose amount is not 0
abbrev pub listed : {Row : Type 0} → (List ℕ → ℕ → Row) → List (List ℕ) → (List ℕ → ℕ) → List Row
listed make keys amounts =
    map (λ (key : List ℕ). make key (amounts key)) (filter (λ (key : List ℕ). not (amounts key == 0)) keys)

-- a row for the flow over a facet
abbrev pub flow_row : List ℕ → ℕ → FlowRow
flow_row facet amount = record { facet = facet; amount = amount }

abbrev pub flow_rows : List (List ℕ) → (List ℕ → ℕ) → List FlowRow
flow_rows facets amounts = listed flow_row facets amounts

-- a row for the flow from a cell into its sink
abbrev pub sink_row : List ℕ → ℕ → SinkRow
sink_row cell amount = record { cell = cell; amount = amount }

abbrev pub sink_rows : List (List ℕ) → (List ℕ → ℕ) → List SinkRow
sink_rows cells amounts = listed sink_row cells amounts

-- the numbers of distinct points, scanners and sights, and the weights; a sight counts once, whatever its weight
pub record HasCounts (claim : Claim) (scan : Shown) (settings : Settings) : Type 0 where
  pub points : claim.counts.points ≡ length (points_of scan)
  pub scanners : claim.counts.scanners ≡ length scan.scanners
  pub sights : claim.counts.sights ≡ length scan.seen
  pub vote : claim.counts.vote ≡ settings.vote
  pub smooth : claim.counts.smooth ≡ settings.smooth

-- The certificate states the cost of these labels and exactly the inside cells in ascending order, and the amounts of its own
-- rows, 0 if there is no row, are a valid flow whose value is that cost. Its rows are exactly the amounts that are not 0.
pub record IsCertificate (s : Scene) (complex : Complex) (inside : List ℕ → Bool) (claim : Claim) : Type 0 where
  pub cost_is : claim.counts.cost ≡ cost s complex inside
  pub inside_is : claim.inside ≡ filter inside complex.cells
  pub flow : IsValidFlow s complex (flow_on claim) (sink_at claim)
  pub value_is : value s complex (sink_at claim) ≡ claim.counts.cost
  pub flow_is : claim.flow ≡ flow_rows complex.facets (flow_on claim)
  pub sink_is : claim.sink ≡ sink_rows complex.cells (sink_at claim)

-- The best surface of a scan and its certificate: of the complex of all cells and all directed facets with a capacity, the mesh
-- of the facets of outside cells whose adjacent cell is inside, under the labels of least cost whose inside is contained in
-- that of all labels of that cost, and a certificate of these labels.
pub record IsSolution (scan : Shown) (settings : Settings) (mesh : Surface) (claim : Claim) : Type 0 where
  pub complex : Complex
  pub inside : List ℕ → Bool
  pub complex_is : IsComplexOf (scene_of_scan scan settings) complex
  pub least : IsLeastInside (scene_of_scan scan settings) complex inside
  pub mesh_is : mesh ≡ mesh_of (corners ++ points_of scan) (cut_facets (boxed_vertices (points_of scan)) complex inside)
  pub counts : HasCounts claim scan settings
  pub certificate : IsCertificate (scene_of_scan scan settings) complex inside claim

-- a mesh's points and faces
abbrev pub surface_of : Mesh → Surface
surface_of mesh = record { points = mesh.points.items; faces = mesh.faces.items }
