-- Whether a simplified mesh is what it has to be.
--
--   IsCoveredIfAsked surface fine within homes ..   if that is asked, the scale is 1, and each point of either mesh is near the other
--   IsNearMesh surface fine within homes home_faces points faces   the mesh is closed, each corner of the faces of the original is near a
--                               face, and the meshes are near each other if that is asked
--   IsFarIfSaid within homes points faces u   a corner of the original is far from each face, if the fault says so
--   IsSimplifyFault within homes ..   what a fault says: an unbalanced edge, or a point that is farther than the distance from each face
--   IsSimplifyJudgment surface fine within homes home_faces points faces verdict   a fault, or how many pairs of faces cross
use Rattle.std.specs.Prelude.{ℕ, ◌≡◌, Bool, true, List}
use Rattle.geo_sign.specs.Point.{Point}
use Rattle.mesh.specs.Meshes.{point_at}
use Rattle.mesh_edges.specs.Edges.{face_at, IsBalanced, IsFirstUnbalanced}
use Rattle.mesh_crossings.specs.Counts.{CountsCrossings}
use Rattle.mesh_reach.specs.Reached.{AreReached}
use Rattle.mesh_cover.specs.Covers.{AreWithinEachOther}
use Rattle.mesh_check.specs.Far.{AreAllFar, IsFarIfGiven}
use Rattle.mesh_check.specs.declared.verdict.Unreached.{Unreached}
use Rattle.mesh_check.specs.declared.verdict.Fault.{Fault}
use Rattle.mesh_check.specs.declared.verdict.Fault.TheVariants.{Unbalanced, NonManifold, FarVertex, UnreachedVertex, UncoveredOriginal, UncoveredFace}
use Rattle.mesh_check.specs.declared.verdict.Verdict.{Verdict}
use Rattle.mesh_check.specs.declared.verdict.Verdict.TheVariants.{Keeps, Breaks}

-- both meshes have the same units, and each point of either is near the other, if that is asked
abbrev pub IsCoveredIfAsked : (surface : Bool) → (fine within : ℕ) → (homes : List Point) → (home_faces : List (List ℕ))
    → (points : List Point) → (faces : List (List ℕ)) → Type 0
IsCoveredIfAsked surface fine within homes home_faces points faces =
    surface ≡ true → (fine ≡ 1) × AreWithinEachOther within homes home_faces points faces

-- the mesh is closed, each corner of the original is near a face, and the meshes are near each other if that is asked
pub record IsNearMesh (surface : Bool) (fine within : ℕ) (homes : List Point) (home_faces : List (List ℕ)) (points : List Point)
    (faces : List (List ℕ)) : Type 0 where
  pub closed : IsBalanced faces
  pub reached : AreReached fine within homes home_faces points faces
  pub covered : IsCoveredIfAsked surface fine within homes home_faces points faces

-- a corner of the original is far from each face, if the fault says so
abbrev pub IsFarIfSaid : (within : ℕ) → (homes points : List Point) → (faces : List (List ℕ)) → Unreached → Type 0
IsFarIfSaid within homes points faces u = u.is_far ≡ true → AreAllFar within points faces 1 (point_at homes u.vertex)

-- The first edge that is not balanced. If a corner or a face is not shown near, the mesh is closed, and a point that the fault names is farther
-- than the distance from each face of the other mesh.
abbrev pub IsSimplifyFault : (within : ℕ) → (homes : List Point) → (home_faces : List (List ℕ)) → (points : List Point)
    → (faces : List (List ℕ)) → Fault → Type 0
IsSimplifyFault within homes home_faces points faces (Unbalanced e) = IsFirstUnbalanced faces e.from e.to e.there e.back
IsSimplifyFault within homes home_faces points faces (NonManifold edges vertices) = ⊥
IsSimplifyFault within homes home_faces points faces (FarVertex v) = ⊥
IsSimplifyFault within homes home_faces points faces (UnreachedVertex u) = IsBalanced faces × IsFarIfSaid within homes points faces u
IsSimplifyFault within homes home_faces points faces (UncoveredOriginal u) =
    IsBalanced faces × IsFarIfGiven within homes points faces (face_at home_faces u.face) u.far
IsSimplifyFault within homes home_faces points faces (UncoveredFace u) =
    IsBalanced faces × IsFarIfGiven within points homes home_faces (face_at faces u.face) u.far

-- a fault, or that there is none and how many pairs of faces cross
abbrev pub IsSimplifyJudgment : (surface : Bool) → (fine within : ℕ) → (homes : List Point) → (home_faces : List (List ℕ))
    → (points : List Point) → (faces : List (List ℕ)) → Verdict → Type 0
IsSimplifyJudgment surface fine within homes home_faces points faces (Keeps counts) =
    IsNearMesh surface fine within homes home_faces points faces × CountsCrossings points faces counts
IsSimplifyJudgment surface fine within homes home_faces points faces (Breaks fault) =
    IsSimplifyFault within homes home_faces points faces fault
