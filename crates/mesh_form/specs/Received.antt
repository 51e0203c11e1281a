-- The state of a mesh writer.
--
--   Received             the state of a mesh writer: its stage, the numbers of points and faces due, the points and
--                        faces received
--   fresh                nothing received, and nothing due
--   IsFresh              not begun, and nothing received
--   TakesPoint r         a point may follow: begun, and fewer points than are due
--   TakesFace f r        the face may follow: begun, all points received, fewer faces than are due
--   HasAllDue r          begun, and everything that is due was received
--   begun, with_point, with_face, with_end   the state of a mesh writer after each of its calls
--   HasPoints k r points, HasFaces k r points faces   begun, k of the points and no faces; all points and k faces
--   HasAll r points faces      ended, with exactly these points and faces
--   HasPrefix r points faces
--                        not ended; a prefix of the points was received, and after all of them a prefix of the faces
--   HasFront r points faces   a prefix as in `HasPrefix` was received, or all points and faces as in `HasAll`
--   IsReceived           the invariant of a mesh writer: it has received no more than is due, and faces among the
--                        points that are due
--   once_ended stage t   the text of a mesh writer that has ended; before that there is none
use Rattle.std.specs.Prelude.{ℕ, ◌≡◌, ◌≢◌, ◌<◌, ◌≤◌, ◌^◌, ◌⊎◌, List, [], ◌∷◌, ◌++◌, length, take, All}
use Rattle.geo_sign.specs.Point.{Point}
use Rattle.mesh.specs.Meshes.{IsFace}
use Rattle.mesh_form.specs.declared.stage.Stage.{Stage}
use Rattle.mesh_form.specs.declared.stage.Stage.TheVariants.{Fresh, Begun, Ended}

-- what a writer has received
pub record Received : Type 0 where
  pub stage : Stage
  pub points_due : ℕ
  pub faces_due : ℕ
  pub points : List Point
  pub faces : List (List ℕ)

-- nothing, and no numbers are due
abbrev pub fresh : Received
fresh = record { stage = Fresh; points_due = 0; faces_due = 0; points = []; faces = [] }

-- not begun, and nothing received
pub record IsFresh (r : Received) : Type 0 where
  pub stage : r.stage ≡ Fresh
  pub no_points : r.points ≡ []
  pub no_faces : r.faces ≡ []

-- a point may follow
pub record TakesPoint (r : Received) : Type 0 where
  pub stage : r.stage ≡ Begun
  pub due : length r.points < r.points_due

-- this face may follow
pub record TakesFace (f : List ℕ) (r : Received) : Type 0 where
  pub stage : r.stage ≡ Begun
  pub points : length r.points ≡ r.points_due
  pub due : length r.faces < r.faces_due
  pub face : IsFace (length r.points) f

-- everything that is due was received
pub record HasAllDue (r : Received) : Type 0 where
  pub stage : r.stage ≡ Begun
  pub points : length r.points ≡ r.points_due
  pub faces : length r.faces ≡ r.faces_due

-- begun, with n points and m faces due
abbrev pub begun : (n m : ℕ) → Received → Received
begun n m r = record { stage = Begun; points_due = n; faces_due = m; points = r.points; faces = r.faces }

-- one more point
abbrev pub with_point : Point → Received → Received
with_point p r =
    record { stage = r.stage; points_due = r.points_due; faces_due = r.faces_due; points = r.points ++ p ∷ []; faces = r.faces }

-- one more face
abbrev pub with_face : List ℕ → Received → Received
with_face f r =
    record { stage = r.stage; points_due = r.points_due; faces_due = r.faces_due; points = r.points; faces = r.faces ++ f ∷ [] }

-- everything is received
abbrev pub with_end : Received → Received
with_end r = record { stage = Ended; points_due = r.points_due; faces_due = r.faces_due; points = r.points; faces = r.faces }

-- begun, k of these points received, and no faces
pub record HasPoints (k : ℕ) (r : Received) (points : List Point) : Type 0 where
  pub stage : r.stage ≡ Begun
  pub due : r.points_due ≡ length points
  pub within : k ≤ length points
  pub front : r.points ≡ take k points
  pub no_faces : r.faces ≡ []

-- begun, all points received, and k of these faces
pub record HasFaces (k : ℕ) (r : Received) (points : List Point) (faces : List (List ℕ)) : Type 0 where
  pub stage : r.stage ≡ Begun
  pub points_due : r.points_due ≡ length points
  pub all_points : r.points ≡ points
  pub due : r.faces_due ≡ length faces
  pub within : k ≤ length faces
  pub front : r.faces ≡ take k faces

-- ended, with exactly these points and faces
pub record HasAll (r : Received) (points : List Point) (faces : List (List ℕ)) : Type 0 where
  pub stage : r.stage ≡ Ended
  pub all_points : r.points ≡ points
  pub all_faces : r.faces ≡ faces
  pub points_due : r.points_due ≡ length points
  pub faces_due : r.faces_due ≡ length faces

-- a prefix of the points, and a prefix of the faces after all points; not ended
pub record HasPrefix (r : Received) (points : List Point) (faces : List (List ℕ)) : Type 0 where
  pub stage : r.stage ≢ Ended
  pub front_points : r.points ≡ take (length r.points) points
  pub front_faces : r.faces ≡ take (length r.faces) faces
  pub in_turn : 0 < length r.faces → r.points ≡ points

-- a prefix of the mesh, possibly all of it
abbrev pub HasFront : Received → List Point → List (List ℕ) → Type 0
HasFront r points faces = HasPrefix r points faces ⊎ HasAll r points faces

-- the invariant of a `Receipt`: 32-bit numbers, no more than is due, faces among the points that are due
pub record IsReceived (points_due faces_due : ℕ) (points : List Point) (faces : List (List ℕ)) : Type 0 where
  pub few_points : points_due < 2 ^ 32
  pub few_faces : faces_due < 2 ^ 32
  pub some_points : length points ≤ points_due
  pub some_faces : length faces ≤ faces_due
  pub each : All (IsFace points_due) faces

-- the text of a writer that has ended, before which there is none
abbrev pub once_ended : Stage → List ℕ → List ℕ
once_ended Fresh text = []
once_ended Begun text = []
once_ended Ended text = text
