-- Whether a finished mesh is what it has to be.
--
--   IsNonManifoldVertex points faces v   the faces at a vertex are not one cycle
--   IsManifold points faces              each edge has exactly two faces, and the faces at each vertex are one cycle
--   IsManifoldIfAsked asked points faces   if it is asked, the mesh is manifold
--   HasNonManifold asked points faces edges vertices
--                                        a manifold mesh is asked for, and the mesh has these numbers of non-manifold
--                                        edges and vertices, at least one in all
--   KeepsDemands homes d points faces    the mesh is closed, manifold if asked, and each vertex is near a home
--   HasFarVertex homes d points faces v  the mesh is closed, and manifold if asked; v is its first vertex that is not
--                                        near a home
--   IsFirstFault homes d points faces fault   the fault is the first demand that does not hold
--   IsJudgment homes d points faces verdict
--                                        the verdict is the first fault; or there is none, and the verdict has the
--                                        numbers of pairs of faces that cross
use Rattle.std.specs.Prelude.{ℕ, ◌+◌, ◌≡◌, ◌<◌, Bool, true, List, length}
use Rattle.geo_sign.specs.Point.{Point}
use Rattle.mesh_edges.specs.Things.{AreSoMany}
use Rattle.mesh_edges.specs.Edges.{IsBalanced, IsFirstUnbalanced}
use Rattle.mesh_measures.specs.Manifolds.{IsNonManifoldPair, IsManifoldVertex}
use Rattle.mesh_crossings.specs.Counts.{CountsCrossings}
use Rattle.mesh_check.specs.Homes.{AreAllNear, IsFirstFar}
use Rattle.mesh_check.specs.declared.verdict.Demands.{Demands}
use Rattle.mesh_check.specs.declared.verdict.Fault.{Fault}
use Rattle.mesh_check.specs.declared.verdict.Fault.TheVariants.{Unbalanced, NonManifold, FarVertex, UnreachedVertex, UncoveredOriginal, UncoveredFace}
use Rattle.mesh_check.specs.declared.verdict.Verdict.{Verdict}
use Rattle.mesh_check.specs.declared.verdict.Verdict.TheVariants.{Keeps, Breaks}

-- the faces at a vertex are not one cycle
abbrev pub IsNonManifoldVertex : List Point → List (List ℕ) → ℕ → Type 0
IsNonManifoldVertex points faces v = (v < length points) × (¬ IsManifoldVertex faces v)

-- no edge has other than two faces, and there is no vertex whose faces are not one cycle
pub record IsManifold (points : List Point) (faces : List (List ℕ)) : Type 0 where
  pub edges : (e : ℕ × ℕ) → ¬ IsNonManifoldPair faces e
  pub vertices : (v : ℕ) → ¬ IsNonManifoldVertex points faces v

-- the same, if it is asked
abbrev pub IsManifoldIfAsked : (asked : Bool) → List Point → List (List ℕ) → Type 0
IsManifoldIfAsked asked points faces = asked ≡ true → IsManifold points faces

-- it is asked, and this many edges and vertices are not manifold, at least one of both
pub record HasNonManifold (asked : Bool) (points : List Point) (faces : List (List ℕ)) (edges vertices : ℕ) : Type 0 where
  pub asked_so : asked ≡ true
  pub some : 0 < edges + vertices
  pub edge_count : AreSoMany (IsNonManifoldPair faces) edges
  pub vertex_count : AreSoMany (IsNonManifoldVertex points faces) vertices

-- the mesh is closed, manifold if that is asked, and each vertex is near a home
pub record KeepsDemands (homes : List Point) (d : Demands) (points : List Point) (faces : List (List ℕ)) : Type 0 where
  pub closed : IsBalanced faces
  pub manifold : IsManifoldIfAsked d.manifold points faces
  pub near : AreAllNear d.fine d.within homes points

-- the vertex is the first that is far, in a mesh that keeps the demands before
pub record HasFarVertex (homes : List Point) (d : Demands) (points : List Point) (faces : List (List ℕ)) (v : ℕ) : Type 0 where
  pub closed : IsBalanced faces
  pub manifold : IsManifoldIfAsked d.manifold points faces
  pub far : IsFirstFar d.fine d.within homes points v

-- the first demand that does not hold
abbrev pub IsFirstFault : List Point → Demands → List Point → List (List ℕ) → Fault → Type 0
IsFirstFault homes d points faces (Unbalanced e) = IsFirstUnbalanced faces e.from e.to e.there e.back
IsFirstFault homes d points faces (NonManifold edges vertices) =
    IsBalanced faces × HasNonManifold d.manifold points faces edges vertices
IsFirstFault homes d points faces (FarVertex v) = HasFarVertex homes d points faces v
IsFirstFault homes d points faces (UnreachedVertex v) = ⊥
IsFirstFault homes d points faces (UncoveredOriginal i) = ⊥
IsFirstFault homes d points faces (UncoveredFace i) = ⊥

-- a fault, or that there is none and how many pairs of faces cross
abbrev pub IsJudgment : List Point → Demands → List Point → List (List ℕ) → Verdict → Type 0
IsJudgment homes d points faces (Keeps counts) = KeepsDemands homes d points faces × CountsCrossings points faces counts
IsJudgment homes d points faces (Breaks fault) = IsFirstFault homes d points faces fault
