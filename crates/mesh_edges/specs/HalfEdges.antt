-- Half edges: side k of face f is half edge 3 f + k, from corner k to the next.
--
--   start faces h          the vertex at which a half edge begins
--   behind h               the half edge after h in its face
--   ahead h                the half edge before h in its face
--   around twins h         the half edge after h around the vertex at which both begin
--   IsTwin faces twins h   the twin of a half edge is another one, whose twin it is, and runs the other way
--   ArePaired faces twins  each half edge has a twin
use Rattle.std.specs.Prelude.{ℕ, ◌≡◌, ◌≢◌, ◌+◌, ◌-◌, ◌*◌, ◌/◌, ◌%◌, ◌<◌, ◌==◌, List, length, slice_index, if◌then◌else◌}
use Rattle.mesh_edges.specs.Edges.{face_at}

-- the vertex at which a half edge begins
abbrev pub start : List (List ℕ) → ℕ → ℕ
start faces h = slice_index (face_at faces (h / 3)) (h % 3)

-- the half edge after it in its face
abbrev pub behind : ℕ → ℕ
behind h = if h % 3 == 2 then h - 2 else h + 1

-- the half edge before h in its face
abbrev pub ahead : ℕ → ℕ
ahead h = if h % 3 == 0 then h + 2 else h - 1

-- The half edge before h in its face ends at the vertex at which h begins, and the twin of that one begins there.
abbrev pub around : List ℕ → ℕ → ℕ
around twins h = slice_index twins (ahead h)

-- Its twin is another half edge, whose twin it is, and begins where it ends.
pub record IsTwin (faces : List (List ℕ)) (twins : List ℕ) (h : ℕ) : Type 0 where
  pub within : slice_index twins h < length twins
  pub other : slice_index twins h ≢ h
  pub back : slice_index twins (slice_index twins h) ≡ h
  pub edge : start faces (slice_index twins h) ≡ start faces (behind h)

-- each half edge has a twin
pub record ArePaired (faces : List (List ℕ)) (twins : List ℕ) : Type 0 where
  pub count : length twins ≡ 3 * length faces
  pub each : (h : ℕ) → h < length twins → IsTwin faces twins h
