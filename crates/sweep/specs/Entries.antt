-- The best surface of a scene and its cost, and what writers receive of the surfaces of a sweep.
--
--   AreBestLabels s complex inside   the complex of the scene, and its minimum cut with the smallest inside
--   CostsLeast s n                n is the cost of these labels
--   IsSurfaceOf s points mesh     the mesh is that of the facets that these labels cut
--   Given                         points, scanners and sights
--   given_by scan, given_scene g settings   the points, scanners and sights of a scan; their scene at weights
--   AreWeights settings v l       the settings with a visibility weight and an area weight
--   IsSurfaceAt g vote smooth mesh, CostsAt g vote smooth n
--                                 `IsSurfaceOf` and `CostsLeast` at a visibility weight and an area weight
--   smoothing_of from step k      the area weight of entry k of a sweep, counted from 0
--   HasEntry, HasEntryFront       what a writer has received of the mesh of an entry
--   HaveEntries                   each mesh writer has received exactly the mesh of its entry
--   HaveEntryFronts               each mesh writer is fresh, or has received a prefix of the mesh of its entry
use Rattle.std.specs.Prelude.{ℕ, ◌≡◌, ◌⊎◌, ◌<◌, ◌+◌, ◌*◌, ◌++◌, Bool, List, length, slice_index_or}
use Rattle.flow_net.specs.declared.votes.Settings.{Settings}
use Rattle.flow_net.specs.declared.votes.Sight.{Sight}
use Rattle.geo_sign.specs.Point.{Point}
use Rattle.geo_sign.specs.Vertices.{corners}
use Rattle.mesh_form.specs.Received.{Received, IsFresh, HasAll, HasFront}
use Rattle.mesh.specs.Meshes.{Surface, mesh_of}
use Rattle.scan_rows.specs.Shown.{Shown}
use Rattle.solution.specs.Scans.{points_of, sights_of}
use Rattle.visibility.specs.Complexes.{Complex}
use Rattle.visibility.specs.Cuts.{cost, cut_facets, IsLeastInside}
use Rattle.visibility.specs.Scenes.{Scene, scene_of}
use Rattle.visibility.specs.Votes.{IsComplexOf}

-- all cells of the scene and all facets with a capacity, and labels of least cost whose inside is contained in that of all
-- labels of that cost
pub record AreBestLabels (s : Scene) (complex : Complex) (inside : List ℕ → Bool) : Type 0 where
  pub complex_is : IsComplexOf s complex
  pub least : IsLeastInside s complex inside

-- the number is the cost of these labels
pub record CostsLeast (s : Scene) (n : ℕ) : Type 0 where
  pub complex : Complex
  pub inside : List ℕ → Bool
  pub best : AreBestLabels s complex inside
  pub cost_is : n ≡ cost s complex inside

-- the mesh is that of the facets of outside cells whose adjacent cell is inside, by these labels; the vertices are the corners
-- of the box and these points
pub record IsSurfaceOf (s : Scene) (points : List Point) (mesh : Surface) : Type 0 where
  pub complex : Complex
  pub inside : List ℕ → Bool
  pub best : AreBestLabels s complex inside
  pub mesh_is : mesh ≡ mesh_of (corners ++ points) (cut_facets s.vertices complex inside)

-- the distinct points, the scanners and the sights
pub record Given : Type 0 where
  pub points : List Point
  pub scanners : List Point
  pub sights : List Sight

-- those of a scan
abbrev pub given_by : Shown → Given
given_by scan = record { points = points_of scan; scanners = scan.scanners; sights = sights_of scan }

-- their scene at these weights
abbrev pub given_scene : Given → Settings → Scene
given_scene g settings = scene_of g.points g.scanners g.sights settings

-- the settings with a visibility weight and an area weight
pub record AreWeights (settings : Settings) (vote smooth : ℕ) : Type 0 where
  pub vote_is : settings.vote ≡ vote
  pub smooth_is : settings.smooth ≡ smooth

-- the mesh is that of the best surface at these weights
pub record IsSurfaceAt (g : Given) (vote smooth : ℕ) (mesh : Surface) : Type 0 where
  pub settings : Settings
  pub weights : AreWeights settings vote smooth
  pub surface : IsSurfaceOf (given_scene g settings) g.points mesh

-- the number is the cost of the best surface at these weights
pub record CostsAt (g : Given) (vote smooth n : ℕ) : Type 0 where
  pub settings : Settings
  pub weights : AreWeights settings vote smooth
  pub cost_is : CostsLeast (given_scene g settings) n

-- the area weight of entry k of a sweep, whose first is entry 0
abbrev pub smoothing_of : (from step k : ℕ) → ℕ
smoothing_of from step k = from + k * step

-- a writer has received exactly the mesh at these weights
pub record HasEntry (g : Given) (vote smooth : ℕ) (r : Received) : Type 0 where
  pub mesh : Surface
  pub surface : IsSurfaceAt g vote smooth mesh
  pub all : HasAll r mesh.points mesh.faces

-- a writer is fresh, or has received a prefix of the mesh at these weights, possibly all of it
abbrev pub HasEntryFront : (g : Given) → (vote smooth : ℕ) → Received → Type 0
HasEntryFront g vote smooth r =
    IsFresh r ⊎ ((mesh : Surface) × IsSurfaceAt g vote smooth mesh × HasFront r mesh.points mesh.faces)

-- each writer has received exactly the mesh of its entry
abbrev pub HaveEntries : (g : Given) → (vote from step : ℕ) → List Received → Type 0
HaveEntries g vote from step forms =
    (k : ℕ) (d : Received) → k < length forms → HasEntry g vote (smoothing_of from step k) (slice_index_or forms k d)

-- each writer is fresh, or has received a prefix of the mesh of its entry
abbrev pub HaveEntryFronts : (g : Given) → (vote from step : ℕ) → List Received → Type 0
HaveEntryFronts g vote from step forms =
    (k : ℕ) (d : Received) → k < length forms → HasEntryFront g vote (smoothing_of from step k) (slice_index_or forms k d)
