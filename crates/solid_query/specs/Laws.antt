-- Properties of all labels of points.
--
--   LabelsAreUnique     the list of labels of points is unique
--   PointsHaveLabels    among labelled cells each data point has exactly one label
--   HasPoint scan cells q    the perturbed point lies in one of these cells
--   LabelsAreCertified  a point is inside exactly if an inside cell of the scan's certificate has it
use Rattle.std.specs.Prelude.{ℕ, ◌≡◌, ◌<◌, ◌↔◌, Bool, true, List, length, slice_index_or}
use Rattle.std.specs.List.{Any}
use Rattle.certificate.specs.Certificates.{Claim}
use Rattle.flow_net.specs.Nets.{flag_at}
use Rattle.flow_net.specs.declared.votes.Settings.{Settings}
use Rattle.geo_sign.specs.Boxes.{IsBoxed}
use Rattle.geo_sign.specs.Cells.{IsCellList, written}
use Rattle.geo_sign.specs.Point.{Point, IsWithin, origin}
use Rattle.geo_sign.specs.Rational.{displaced}
use Rattle.geo_sign.specs.Sights.{is_cell_of}
use Rattle.geo_sign.specs.Vertices.{Vertices, boxed_vertices}
use Rattle.geo_sign.specs.declared.point.TheConstants.{DATA_LIMIT}
use Rattle.mesh.specs.Meshes.{Surface}
use Rattle.scan_rows.specs.Shown.{Shown}
use Rattle.solution.specs.Scans.{points_of}
use Rattle.solution.specs.Solutions.{IsSolution}
use Rattle.solid_query.specs.Labels.{IsLabelOf, AreLabels}

-- the scan, the settings and the points determine them
abbrev pub LabelsAreUnique : Type 0
LabelsAreUnique =
    (scan : Shown) (settings : Settings) (points : List Point) (labels other : List Bool) → AreLabels scan settings points labels
    → AreLabels scan settings points other → labels ≡ other

-- even if the point is a vertex, or lies on a facet
abbrev pub PointsHaveLabels : Type 0
PointsHaveLabels =
    (v : Vertices) (cells : List (List ℕ)) (inside : List ℕ → Bool) (q : Point) → IsBoxed v → IsCellList v cells
    → IsWithin DATA_LIMIT q
    → (label : Bool) × IsLabelOf v cells inside q label × ((other : Bool) → IsLabelOf v cells inside q other → other ≡ label)

-- the perturbed point lies in one of these cells of the scan
abbrev pub HasPoint : Shown → (cells : List (List ℕ)) → Point → Type 0
HasPoint scan cells q =
    Any (λ row. is_cell_of (boxed_vertices (points_of scan)) (displaced q) (written (boxed_vertices (points_of scan)) row) ≡ true) cells

-- for any flow that the certificate states
abbrev pub LabelsAreCertified : Type 0
LabelsAreCertified =
    (scan : Shown) (settings : Settings) (mesh : Surface) (claim : Claim) (points : List Point) (labels : List Bool)
    → IsSolution scan settings mesh claim → AreLabels scan settings points labels → (k : ℕ) → k < length points
    → (flag_at labels k ≡ true) ↔ HasPoint scan claim.inside (slice_index_or points k origin)
