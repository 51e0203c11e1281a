-- Following next faces.
--
--   IsSuccession points faces h next    the list gives each cut face its next face
--   is_visited visited f, visits        whether face f was visited, or f is no face; the same as a number, 0 or 1
--   IsBetweenLoops points faces h next visited   whole loops were visited, and the faces that are not cut
use Rattle.std.specs.Prelude.{ℕ, ◌≡◌, Bool, true, false, List, length, slice_index, slice_index_or, if◌then◌else◌, ℤ}
use Rattle.geo_sign.specs.Point.{Point}
use Rattle.solid_slice.specs.Cuts.{is_cut_at}
use Rattle.solid_slice.specs.Loops.{IsNext}

-- the list gives each cut face its next face
pub record IsSuccession (points : List Point) (faces : List (List ℕ)) (h : ℤ) (next : List ℕ) : Type 0 where
  pub size : length next ≡ length faces
  pub each : (f : ℕ) → is_cut_at points faces h f ≡ true → IsNext points faces h f (slice_index next f)

abbrev pub is_visited : List Bool → ℕ → Bool
is_visited visited f = slice_index_or visited f true

abbrev pub visits : List Bool → ℕ → ℕ
visits visited f = if is_visited visited f then 1 else 0

-- faces that are not cut count as visited, and so does each face whose next face was visited
pub record IsBetweenLoops (points : List Point) (faces : List (List ℕ)) (h : ℤ) (next : List ℕ)
    (visited : List Bool) : Type 0 where
  pub size : length visited ≡ length faces
  pub uncut : (f : ℕ) → is_cut_at points faces h f ≡ false → is_visited visited f ≡ true
  pub whole : (f : ℕ) → is_visited visited (slice_index next f) ≡ true → is_visited visited f ≡ true
