-- Whether a mesh and a certificate are the best surface of a scan and the certificate that shows it: the first reason why
-- they are not, or yes.
--
--   best_surface scan complex inside              the mesh of the facets of a complex between outside and inside cells,
--                                                 among the corners of the box and the distinct points of the scan
--   surface_text surface                          the mesh text of a surface
--   IsSolved scan settings mesh claim             a surface with this text and the claim solve the scan (`IsSolution`)
--   stated_count which claim, count_here which scan settings
--                                                 one of five numbers: as a certificate states it; as it is here. They
--                                                 are the numbers of distinct points, scanners and sights of the scan,
--                                                 the visibility weight and the area weight
--   earlier which                                 of the five numbers that are compared, those before this one. The
--                                                 order is points, scanners, sights, visibility weight, area weight
--   IsOtherCount scan settings claim which a b    the first of the five numbers (`earlier`) in which a certificate
--                                                 differs from the scan: the certificate states a, and the scan has b
--   IsReason scan s complex claim mesh reason     the reason is the first fault of a certificate with the scan's
--                                                 numbers, or of the mesh: in the order of the kinds of faults, then of
--                                                 the rows, cells or facets
--   IsFaultOver scan settings mesh claim reason   the certificate has the scan's numbers, and the reason is its first
--                                                 fault over the cells and facets of the scan (`IsReason`)
--   IsFault scan settings mesh claim reason       the reason is the first fault of a certificate apart from its
--                                                 fingerprint: another number than the scan's (`IsOtherCount`), or else
--                                                 a fault over cells and facets (`IsFaultOver`)
--   IsFaultHere scan settings stamp mesh claim reason
--                                                 the reason is the first part of the certificate's fingerprint that
--                                                 differs from this one, or, if none does, the first other fault
--                                                 (`IsFault`)
--   HasCertificate cert P                         the text is that of a well-formed certificate, and P holds of what it
--                                                 states
--   IsAccepted scan settings stamp mesh cert      these are the texts of a surface and of a well-formed claim that
--                                                 solve the scan (`IsSolution`), and the claim has no fingerprint or
--                                                 this one
--   IsSolvedWith scan settings mesh a b c claim   a surface with this mesh text and the claim solve the scan
--                                                 (`IsSolved`), with a inside cells, b faces and the cost c
--   IsAnswer scan settings stamp mesh cert answer
--                                                 Yes with the numbers of such a solution, or the first reason in the
--                                                 stated order
--   IsYes answer                                  the answer is Yes
--   IsYesWhereSolved scan settings stamp mesh cert answer
--                                                 assume that a surface and a claim solve the scan, that these are
--                                                 their texts, and that the claim has no fingerprint or this one; then
--                                                 the answer is Yes with their numbers
use Rattle.std.specs.Prelude.{ℕ, ◌≡◌, ◌≢◌, ◌⊎◌, ◌++◌, Bool, List, [], ◌∷◌, All, Contains, length, ⊤}
use Rattle.certificate.specs.Stamps.{StampView}
use Rattle.certificate.specs.Certificates.{Claim, IsWellFormed}
use Rattle.cert_text.specs.Refusals.{IsRefusedCertificate}
use Rattle.cert_text.specs.Texts.{cert_text}
use Rattle.cert_text.specs.declared.refusal.CertRefusal.TheVariants as refusals
use Rattle.flow_net.specs.Firsts.{IsFirst}
use Rattle.flow_net.specs.Faults.{IsFixedInside, IsOverCapacity, sink_limit, IsOverSink, total_out, IsUnbalanced, IsNotLeast}
use Rattle.flow_net.specs.Networks.{amount_in as entering}
use Rattle.flow_net.specs.declared.votes.Settings.{Settings}
use Rattle.geo_sign.specs.Vertices.{corners, boxed_vertices}
use Rattle.mesh.specs.Meshes.{Surface, mesh_of}
use Rattle.mesh_ply.specs.Texts.{mesh_text}
use Rattle.solution.specs.Scans.{points_of, scene_of_scan}
use Rattle.solution.specs.Solutions.{flow_on, sink_at, HasCounts, IsSolution}
use Rattle.scan_rows.specs.Shown.{Shown}
use Rattle.visibility.specs.Scenes.{Scene}
use Rattle.geo_sign.specs.Tetrahedron.{facet_at}
use Rattle.visibility.specs.Complexes.{Complex}
use Rattle.visibility.specs.Votes.{capacity, IsComplexOf}
use Rattle.visibility.specs.Cuts.{network_over, cost, cut_facets, IsAdmissible}
use Rattle.visibility.specs.Flows.{value, IsValidFlow}
use Rattle.recon_check.specs.Claims.{is_inside, flow_facets, sink_cells, IsStray, AreThere, IsFirstOf}
use Rattle.recon_check.specs.Differences.{IsFirstDifference}
use Rattle.recon_check.specs.Faults.{IsWithinFacets, IsWithinLimits, IsCertified, IsBest}
use Rattle.recon_check.specs.Stamps.{IsStampedFor, IsOtherStamp}
use Rattle.recon_check.specs.declared.answer.Answer.{Answer}
use Rattle.recon_check.specs.declared.answer.Answer.TheVariants.{Yes, No}
use Rattle.recon_check.specs.declared.answer.Reason.{Reason}
use Rattle.recon_check.specs.declared.answer.Reason.TheVariants.{CertLine, CertOrder, CertCut, OtherCounts, NoSuchCell}
use Rattle.recon_check.specs.declared.answer.Reason.TheVariants.{NoSuchFacet, NoSuchSink, FixedInside, OverCapacity, OverSink}
use Rattle.recon_check.specs.declared.answer.Reason.TheVariants.{Unbalanced, NotEqual, NotLeast, WrongCost, MeshDiffers}
use Rattle.recon_check.specs.declared.answer.Which.{Which}
use Rattle.recon_check.specs.declared.answer.Which.TheVariants.{Points, Scanners, Sights, Vote, Smooth}

-- The mesh of the facets between the outside and the inside cells of any labelling. `IsBestMesh` states the labelling.
abbrev pub best_surface : Shown → Complex → (List ℕ → Bool) → Surface
best_surface scan complex inside =
    mesh_of (corners ++ points_of scan) (cut_facets (boxed_vertices (points_of scan)) complex inside)

-- The text of a mesh.
abbrev pub surface_text : Surface → List ℕ
surface_text surface = mesh_text surface.points surface.faces

-- a surface whose text the mesh is and a certificate that states this claim are a solution of the scan
pub record IsSolved (scan : Shown) (settings : Settings) (mesh : List ℕ) (claim : Claim) : Type 0 where
  pub surface : Surface
  pub mesh_is : mesh ≡ surface_text surface
  pub solution : IsSolution scan settings surface claim

-- the number that a certificate states
abbrev pub stated_count : Which → Claim → ℕ
stated_count Points claim = claim.counts.points
stated_count Scanners claim = claim.counts.scanners
stated_count Sights claim = claim.counts.sights
stated_count Vote claim = claim.counts.vote
stated_count Smooth claim = claim.counts.smooth

-- the scan's own: its distinct points, its scanners, its sights, and the weights
abbrev pub count_here : Which → Shown → Settings → ℕ
count_here Points scan settings = length (points_of scan)
count_here Scanners scan settings = length scan.scanners
count_here Sights scan settings = length scan.seen
count_here Vote scan settings = settings.vote
count_here Smooth scan settings = settings.smooth

-- the numbers that are compared before this one
abbrev pub earlier : Which → List Which
earlier Points = []
earlier Scanners = Points ∷ []
earlier Sights = Points ∷ Scanners ∷ []
earlier Vote = Points ∷ Scanners ∷ Sights ∷ []
earlier Smooth = Points ∷ Scanners ∷ Sights ∷ Vote ∷ []

-- the first number that differs
pub record IsOtherCount (scan : Shown) (settings : Settings) (claim : Claim) (which : Which) (stated here : ℕ) : Type 0 where
  pub same_before : All (λ other. stated_count other claim ≡ count_here other scan settings) (earlier which)
  pub stated_is : stated ≡ stated_count which claim
  pub here_is : here ≡ count_here which scan settings
  pub differs : stated ≢ here

-- The first fault, in the order of the cases, of what a certificate states about a scan with this complex. Each is the
-- first in its list: of rows in the order of the certificate, of cells and of facets in ascending order.
abbrev pub IsReason : Shown → Scene → Complex → Claim → List ℕ → Reason → Type 0
IsReason scan s complex claim mesh (NoSuchCell k) = IsFirst (length claim.inside) (IsStray complex.cells claim.inside) k
IsReason scan s complex claim mesh (NoSuchFacet k) =
    All (Contains complex.cells) claim.inside × IsFirst (length (flow_facets claim)) (IsStray complex.facets (flow_facets claim)) k
IsReason scan s complex claim mesh (NoSuchSink k) =
    All (Contains complex.cells) claim.inside × All (Contains complex.facets) (flow_facets claim)
    × IsFirst (length (sink_cells claim)) (IsStray complex.cells (sink_cells claim)) k
IsReason scan s complex claim mesh (FixedInside cell) =
    AreThere complex claim × IsFirstOf complex.cells (IsFixedInside (network_over s complex) (is_inside claim)) cell
IsReason scan s complex claim mesh (OverCapacity facet flow cap) =
    AreThere complex claim × IsAdmissible s complex (is_inside claim)
    × IsFirstOf complex.facets (IsOverCapacity (network_over s complex) (flow_on claim)) facet
    × (flow ≡ flow_on claim facet) × (cap ≡ capacity s (facet_at facet))
IsReason scan s complex claim mesh (OverSink cell flow cap) =
    IsWithinFacets s complex claim × IsFirstOf complex.cells (IsOverSink (network_over s complex) (sink_at claim)) cell
    × (flow ≡ sink_at claim cell) × (cap ≡ sink_limit (network_over s complex) cell)
IsReason scan s complex claim mesh (Unbalanced cell amount_in amount_out) =
    IsWithinLimits s complex claim
    × IsFirstOf complex.cells (IsUnbalanced (network_over s complex) (flow_on claim) (sink_at claim)) cell
    × (amount_in ≡ entering (network_over s complex) (flow_on claim) cell)
    × (amount_out ≡ total_out (network_over s complex) (flow_on claim) (sink_at claim) cell)
IsReason scan s complex claim mesh (NotEqual a b) =
    AreThere complex claim × IsAdmissible s complex (is_inside claim) × IsValidFlow s complex (flow_on claim) (sink_at claim)
    × (a ≡ value s complex (sink_at claim)) × (b ≡ cost s complex (is_inside claim)) × (a ≢ b)
IsReason scan s complex claim mesh (NotLeast cell) =
    IsCertified s complex claim × IsFirstOf complex.cells (IsNotLeast (network_over s complex) (is_inside claim)) cell
IsReason scan s complex claim mesh (WrongCost stated least) =
    IsBest s complex claim × (stated ≡ claim.counts.cost) × (least ≡ cost s complex (is_inside claim)) × (stated ≢ least)
IsReason scan s complex claim mesh (MeshDiffers place) =
    IsBest s complex claim × (claim.counts.cost ≡ cost s complex (is_inside claim))
    × IsFirstDifference mesh (surface_text (best_surface scan complex (is_inside claim))) place
IsReason scan s complex claim mesh _ = ⊥

-- the certificate has the scan's numbers, and the fault is the first of what it states about the scan's cells and facets
pub record IsFaultOver (scan : Shown) (settings : Settings) (mesh : List ℕ) (claim : Claim) (reason : Reason) : Type 0 where
  pub counts : HasCounts claim scan settings
  pub complex : Complex
  pub complex_is : IsComplexOf (scene_of_scan scan settings) complex
  pub reason_is : IsReason scan (scene_of_scan scan settings) complex claim mesh reason

-- the first fault of what a certificate states
abbrev pub IsFault : Shown → Settings → List ℕ → Claim → Reason → Type 0
IsFault scan settings mesh claim (OtherCounts which stated here) = IsOtherCount scan settings claim which stated here
IsFault scan settings mesh claim reason = IsFaultOver scan settings mesh claim reason

-- the first part of the fingerprint that differs, or else the first fault of what the certificate states
abbrev pub IsFaultHere : Shown → Settings → StampView → List ℕ → Claim → Reason → Type 0
IsFaultHere scan settings stamp mesh claim reason =
    IsOtherStamp stamp claim reason ⊎ (IsStampedFor stamp claim × IsFault scan settings mesh claim reason)

-- the text is that of a well-formed certificate, and something holds of what it states
pub record HasCertificate (cert : List ℕ) (P : Claim → Type 0) : Type 0 where
  pub claim : Claim
  pub well_formed : IsWellFormed claim
  pub text_is : cert ≡ cert_text claim
  pub holds : P claim

-- the two texts are those of a solution: there are a surface and a claim with these texts that solve the scan, and the claim
-- has no fingerprint of the input or this one
abbrev pub IsAccepted : Shown → Settings → StampView → (mesh cert : List ℕ) → Type 0
IsAccepted scan settings stamp mesh cert =
    HasCertificate cert (λ claim. IsStampedFor stamp claim × IsSolved scan settings mesh claim)

-- the two texts are those of a solution with these numbers of inside cells and faces, and of this cost
pub record IsSolvedWith (scan : Shown) (settings : Settings) (mesh : List ℕ) (inside faces least : ℕ)
    (claim : Claim) : Type 0 where
  pub shown : IsSolved scan settings mesh claim
  pub inside_is : inside ≡ length claim.inside
  pub faces_is : faces ≡ length shown.surface.faces
  pub cost_is : least ≡ claim.counts.cost

-- Yes, with the numbers of inside cells and faces and the cost of a solution that has no other fingerprint. Otherwise no, with the
-- first reason: the text is invalid as a certificate, its fingerprint differs, or the first fault of what it states.
abbrev pub IsAnswer : Shown → Settings → StampView → (mesh cert : List ℕ) → Answer → Type 0
IsAnswer scan settings stamp mesh cert (Yes inside faces least) =
    HasCertificate cert (λ claim. IsStampedFor stamp claim × IsSolvedWith scan settings mesh inside faces least claim)
IsAnswer scan settings stamp mesh cert (No (CertLine n)) = IsRefusedCertificate cert (refusals.BadLine n)
IsAnswer scan settings stamp mesh cert (No (CertOrder n)) = IsRefusedCertificate cert (refusals.Order n)
IsAnswer scan settings stamp mesh cert (No CertCut) = IsRefusedCertificate cert refusals.CertCut
IsAnswer scan settings stamp mesh cert (No reason) =
    HasCertificate cert (λ claim. IsFaultHere scan settings stamp mesh claim reason)

-- the answer is Yes
abbrev pub IsYes : Answer → Type 0
IsYes (Yes inside faces least) = ⊤
IsYes (No reason) = ⊥

-- if a surface and a claim with no fingerprint or this one are a solution with these texts, the answer is Yes with their numbers
abbrev pub IsYesWhereSolved : Shown → Settings → StampView → (mesh cert : List ℕ) → Answer → Type 0
IsYesWhereSolved scan settings stamp mesh cert answer =
    (surface : Surface) (claim : Claim) → IsSolution scan settings surface claim → IsWellFormed claim → IsStampedFor stamp claim
    → mesh ≡ surface_text surface → cert ≡ cert_text claim
    → answer ≡ Yes (length claim.inside) (length surface.faces) claim.counts.cost
