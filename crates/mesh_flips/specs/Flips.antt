-- Meshes after flips of edges.
--
--   IsFlip old new         one edge is flipped
--   AreFlips old new       any number of edges are flipped, one after another
--   SameExcess old new     for each directed edge the number of its occurrences minus that of its reverse is as before
--   KeepsApart before after old new   faces that were apart among the points before are apart among those after
--   KeepsSingle old new    no directed edge that occurred at most once occurs more often
--   IsFlipped points old new   edges were flipped so that `KeepsApart` and `KeepsSingle` hold
use Rattle.std.specs.Prelude.{ℕ, ◌≡◌, ◌≢◌, ◌+◌, ◌<◌, ◌≤◌, List, length}
use Rattle.geo_sign.specs.Point.{Point}
use Rattle.triangles.specs.Gaps.{AreFacesApart}
use Rattle.mesh_edges.specs.Edges.{face_at, faces_with_edge}
use Rattle.mesh_flips.specs.Quads.{IsQuad, flipped}
use Rattle.mesh_flips.specs.declared.quad.Quad.{Quad}

-- two faces a b c and b a d become a d c and d b c
pub record IsFlip (old new : List (List ℕ)) : Type 0 where
  pub one : ℕ
  pub other : ℕ
  pub quad : Quad
  pub lie : IsQuad old one other quad
  pub then : new ≡ flipped old one other quad

-- none, or one more
pub data AreFlips : (old new : List (List ℕ)) → Type 0 where
  none : {faces : List (List ℕ)} → AreFlips faces faces
  more : {old mid new : List (List ℕ)} → AreFlips old mid → IsFlip mid new → AreFlips old new

-- for each directed edge, how much more often it occurs than its reverse is as before
abbrev pub SameExcess : (old new : List (List ℕ)) → Type 0
SameExcess old new =
    (u v : ℕ) → faces_with_edge u v new + faces_with_edge v u old ≡ faces_with_edge u v old + faces_with_edge v u new

-- Faces that were apart, by their numbers, still are: the old ones among the points before, the new ones among those after.
abbrev pub KeepsApart : (before after : List Point) → (old new : List (List ℕ)) → Type 0
KeepsApart before after old new =
    (i j : ℕ) → i ≢ j → i < length old → j < length old → AreFacesApart before (face_at old i) (face_at old j)
    → AreFacesApart after (face_at new i) (face_at new j)

-- no directed edge that occurred at most once occurs more often
abbrev pub KeepsSingle : (old new : List (List ℕ)) → Type 0
KeepsSingle old new = (u v : ℕ) → faces_with_edge u v old ≤ 1 → faces_with_edge u v new ≤ 1

-- edges were flipped, faces that were apart still are, and no directed edge occurs twice that did not
pub record IsFlipped (points : List Point) (old new : List (List ℕ)) : Type 0 where
  pub flips : AreFlips old new
  pub apart : KeepsApart points points old new
  pub single : KeepsSingle old new
