-- What sights add to the counters of facets and cells.
--
--   ray_of s sight                       a sight as it is followed
--   IsOfScanner n sight                  it is a sight of that scanner
--   crossing_weight s scanners id k      the weight of sights that cross the facet of side k of a cell
--   behind_weight s scanners id          the weight of sights that a cell is behind
--   IsRoomFor, IsCellRoom                no counter overflows
--   AreAdded, AreCellsAdded              the counters of facets, or of cells, have these weights more
use Rattle.std.specs.Prelude.{ℕ, ◌≡◌, ◌<◌, ◌+◌, ◌*◌, ◌^◌, List, get_or, slice_index}
use Rattle.geo_sign.specs.Point.{Point, origin}
use Rattle.geo_sign.specs.Sights.{is_crossed, is_behind}
use Rattle.geo_sign.specs.Tetrahedron.{facet_of}
use Rattle.flow_net.specs.declared.votes.Sight.{Sight}
use Rattle.visibility.specs.Scenes.{scanner_point}
use Rattle.tetra_store.specs.Links.{links_of, IsLive}
use Rattle.tetra_store.specs.Store.{Store, vertices_of}
use Rattle.beam.specs.declared.ways.Ray.{Ray}
use Rattle.solution.specs.Counts.{sum_where}

-- from the position of its vertex
abbrev pub ray_of : Store → Sight → Ray
ray_of s sight = record { point = get_or s.points sight.vertex origin; vertex = sight.vertex; added = sight.weight }

-- by the index of the scanner
abbrev pub IsOfScanner : ℕ → Sight → Type 0
IsOfScanner n sight = sight.scanner ≡ n

-- each by its weight
abbrev pub crossing_weight : Store → List Point → (id k : ℕ) → List Sight → ℕ
crossing_weight s scanners id k sights =
    sum_where
    (λ sight. is_crossed (vertices_of s) sight.vertex (scanner_point scanners sight.scanner)
    (facet_of ((links_of s.slots).at id) k)) sights

-- each by its weight
abbrev pub behind_weight : Store → List Point → (id : ℕ) → List Sight → ℕ
behind_weight s scanners id sights =
    sum_where
    (λ sight. is_behind (vertices_of s) sight.vertex (scanner_point scanners sight.scanner) ((links_of s.slots).at id)) sights

-- the counter of each facet of a cell stays below 2 ^ 32
abbrev pub IsRoomFor : Store → List Point → List Sight → List ℕ → Type 0
IsRoomFor s scanners sights crossed =
    (id k : ℕ) → IsLive (links_of s.slots) id → k < 4
    → slice_index crossed (4 * id + k) + crossing_weight s scanners id k sights < 2 ^ 32

-- the counter of each cell stays below 2 ^ 32
abbrev pub IsCellRoom : Store → List Point → List Sight → List ℕ → Type 0
IsCellRoom s scanners sights behind =
    (id : ℕ) → IsLive (links_of s.slots) id → slice_index behind id + behind_weight s scanners id sights < 2 ^ 32

-- the counters of the facets of each cell
abbrev pub AreAdded : Store → List Point → List Sight → (old new : List ℕ) → Type 0
AreAdded s scanners sights old new =
    (id k : ℕ) → IsLive (links_of s.slots) id → k < 4
    → slice_index new (4 * id + k) ≡ slice_index old (4 * id + k) + crossing_weight s scanners id k sights

-- the counter of each cell
abbrev pub AreCellsAdded : Store → List Point → List Sight → (old new : List ℕ) → Type 0
AreCellsAdded s scanners sights old new =
    (id : ℕ) → IsLive (links_of s.slots) id → slice_index new id ≡ slice_index old id + behind_weight s scanners id sights
