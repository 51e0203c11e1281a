-- The rounds in which corners of faces go back.
--
--   flag flags k                   the flag of a number, false past the end
--   KeepsFlags old new             no flag is taken back
--   AreReadyToMark mesh            each face is a triangle, and has a box in the tree and a flag
--   IsStill old new f              the corners of a face have the same points in both lists
--   IsTested points faces crosses i j   two faces are apart, or both are marked
--   IsTestedAmong .. found f       face f and each of a list that it is to be tested against
--   AreTested .. f                 face f and each other that it is to be tested against
--   AreAllTested ..                each face that is to be tested again (`AreAsked`), against each other face
--   HasGoneBack before old new flags more    some points went back to where they were before, and are flagged
--   AreAsked faces back asked      a face is asked unless none of its corners is flagged
--   IsAskedAt back asked f face    the same of one face
--   AreKeptApart before points faces asked   faces that were apart are, unless one of the two is asked
--   HasRest points faces tree asked     the tree has a box of each face that is not asked
use Rattle.std.specs.Prelude.{ℕ, ◌≡◌, ◌≢◌, ◌<◌, ◌≤◌, ◌*◌, ◌⊎◌, Bool, true, false, List, [], ◌∷◌, length, slice_index_or, Contains}
use Rattle.geo_sign.specs.Point.{Point}
use Rattle.mesh.specs.Meshes.{point_at}
use Rattle.mesh_edges.specs.Edges.{face_at}
use Rattle.triangles.specs.declared.tree.HullTree.{HullTree}
use Rattle.triangles.specs.Gaps.{AreFacesApart}
use Rattle.mesh_flips.specs.Fields.{HasBox, IsReady}
use Rattle.mesh_smooth.specs.declared.marking.AskedFaces.{AskedFaces}

-- the flag of a number, false past the end
abbrev pub flag : List Bool → ℕ → Bool
flag flags k = slice_index_or flags k false

-- no flag is taken back
abbrev pub KeepsFlags : (old new : List Bool) → Type 0
KeepsFlags old new = (k : ℕ) → flag old k ≡ true → flag new k ≡ true

-- each face is a triangle, and has a box in the tree and a flag
pub record AreReadyToMark (mesh : AskedFaces) : Type 0 where
  pub ready : IsReady mesh.points.now mesh.faces.now mesh.tree.now
  pub asked : length mesh.asked.now ≡ length mesh.faces.now

-- the corners have the same points in both lists
abbrev pub IsStill : (old new : List Point) → List ℕ → Type 0
IsStill old new (a ∷ b ∷ c ∷ []) =
    (point_at new a ≡ point_at old a) × (point_at new b ≡ point_at old b) × (point_at new c ≡ point_at old c)
IsStill old new _ = ⊥

-- the two faces are apart, or both are marked
abbrev pub IsTested : List Point → List (List ℕ) → List Bool → (i j : ℕ) → Type 0
IsTested points faces crosses i j =
    AreFacesApart points (face_at faces i) (face_at faces j) ⊎ ((flag crosses i ≡ true) × (flag crosses j ≡ true))

-- If both faces of a pair are asked, it is tested at the smaller number.
abbrev pub AreTested : List Point → List (List ℕ) → (asked crosses : List Bool) → (f : ℕ) → Type 0
AreTested points faces asked crosses f =
    (j : ℕ) → j < length faces → j ≢ f → (j < f → flag asked j ≡ false) → IsTested points faces crosses f j

-- the same of those of a list
abbrev pub IsTestedAmong : List Point → List (List ℕ) → (asked crosses : List Bool) → (found : List ℕ) → (f : ℕ) → Type 0
IsTestedAmong points faces asked crosses found f =
    (j : ℕ) → Contains found j → j < length faces → j ≢ f → (j < f → flag asked j ≡ false) → IsTested points faces crosses f j

-- each face that is asked, against each other
abbrev pub AreAllTested : List Point → List (List ℕ) → (asked crosses : List Bool) → Type 0
AreAllTested points faces asked crosses =
    (f : ℕ) → f < length faces → flag asked f ≡ true → AreTested points faces asked crosses f

-- some points went back to where they were before, and each that did is flagged
pub record HasGoneBack (before old new : List Point) (flags more : List Bool) : Type 0 where
  pub kept : KeepsFlags flags more
  pub same : (v : ℕ) → flag more v ≡ false → point_at new v ≡ point_at old v
  pub either : (v : ℕ) → (point_at new v ≡ point_at old v) ⊎ (point_at new v ≡ point_at before v)

-- no corner of the face is flagged
abbrev pub IsUnflagged : List Bool → List ℕ → Type 0
IsUnflagged back (a ∷ b ∷ c ∷ []) = (flag back a ≡ false) × (flag back b ≡ false) × (flag back c ≡ false)
IsUnflagged back _ = ⊥

-- a face is asked unless none of its corners is flagged
abbrev pub AreAsked : List (List ℕ) → (back asked : List Bool) → Type 0
AreAsked faces back asked =
    (f : ℕ) → f < length faces → flag asked f ≡ false → IsUnflagged back (face_at faces f)

-- faces that were apart are, unless one of the two is asked
abbrev pub AreKeptApart : (before points : List Point) → List (List ℕ) → List Bool → Type 0
AreKeptApart before points faces asked =
    (i j : ℕ) → i ≢ j → i < length faces → j < length faces → flag asked i ≡ false → flag asked j ≡ false
    → AreFacesApart before (face_at faces i) (face_at faces j) → AreFacesApart points (face_at faces i) (face_at faces j)

-- the tree has room, and a box of each face that is not asked
pub record HasRest (points : List Point) (faces : List (List ℕ)) (tree : HullTree) (asked : List Bool) : Type 0 where
  pub room : length faces ≤ 4 * tree.leaves
  pub insert : (i : ℕ) → i < length faces → flag asked i ≡ false → HasBox points faces tree i
