-- The steps of finishing, each if it is asked for.
--
--   ArePiecesIf pieces points faces ..      pieces are kept, or all is as it was
--   IsSplitIf manifold points faces ..      vertices are split, or all is as it was
--   AreFlippedIf flips points old new       edges are flipped, or the faces are as they were
--   IsSmoothedIf smoothing points faces ..  points are moved, or all is as it was
--   AreUmbrellas count faces                around each vertex the faces are one cycle
--   AreMade options points faces ..         what the options ask for, step after step
--   AreFinished options points faces ..     this, and the faces around each vertex are one cycle if vertices were split
--   IsNoManifold options points faces       a mesh that was made, in which the faces around some vertex are not one cycle
--   IsUnverifiedStep options .. step        what the options ask for, if this step did not pass its verification
--   ExplainsFinish options points faces error   what an error states of the mesh
use Rattle.std.specs.Prelude.{ℕ, ◌≡◌, ◌<◌, length, Bool, true, false, Option, None, Some, List, ⊤}
use Rattle.geo_sign.specs.Point.{Point}
use Rattle.mesh_edges.specs.Edges.{IsBalanced, IsFirstUnbalanced}
use Rattle.mesh_pieces.specs.Pieces.{ArePieces}
use Rattle.mesh_pieces.specs.Splits.{IsSplit, HasTwoFaces}
use Rattle.mesh_measures.specs.Manifolds.{IsManifoldVertex}
use Rattle.mesh_finish.specs.Finished.{IsFinished, AreSmoothed}
use Rattle.mesh_finish.specs.declared.options.FinishError.{FinishError}
use Rattle.mesh_finish.specs.declared.options.Step.{Step}
use Rattle.mesh_finish.specs.declared.options.Step.TheVariants.{Pieces, Umbrellas}
use Rattle.mesh_finish.specs.declared.options.FinishError.TheVariants.{NotClosed, Unverified, NoMemory}
use Rattle.finish_options.specs.declared.options.FinishOptions.{FinishOptions}
use Rattle.finish_options.specs.declared.options.SmoothOptions.{SmoothOptions}

-- pieces are kept, or all is as it was
abbrev pub ArePiecesIf : Option ℕ → List Point → List (List ℕ) → List Point → List (List ℕ) → Type 0
ArePiecesIf None points faces new_points new_faces = (new_points ≡ points) × (new_faces ≡ faces)
ArePiecesIf (Some most) points faces new_points new_faces = ArePieces most points faces new_points new_faces

-- vertices are split, or all is as it was
abbrev pub IsSplitIf : Bool → List Point → List (List ℕ) → List Point → List (List ℕ) → Type 0
IsSplitIf false points faces new_points new_faces = (new_points ≡ points) × (new_faces ≡ faces)
IsSplitIf true points faces new_points new_faces = IsSplit points faces new_points new_faces

-- with flips the faces are reached by flips, and by none two faces meet that were apart; without they are as they were
abbrev pub AreFlippedIf : (flips : Bool) → List Point → (old new : List (List ℕ)) → Type 0
AreFlippedIf true points old new = IsFinished points old new
AreFlippedIf false points old new = new ≡ old

-- with smoothing each point moves by at most a distance, and by none two faces meet that were apart; without all is as it was
abbrev pub IsSmoothedIf : Option SmoothOptions → List Point → List (List ℕ) → List Point → List (List ℕ) → (fine : ℕ) → Type 0
IsSmoothedIf None points faces new_points new_faces fine = (new_points ≡ points) × (new_faces ≡ faces) × (fine ≡ 1)
IsSmoothedIf (Some s) points faces new_points new_faces fine = AreSmoothed points faces new_points new_faces fine s.within

-- no vertex is one around which the faces are not one cycle
abbrev pub AreUmbrellas : (count : ℕ) → List (List ℕ) → Type 0
AreUmbrellas count faces = (v : ℕ) → v < count → (IsManifoldVertex faces v → ⊥) → ⊥

-- Pieces are kept, then vertices are split, then edges are flipped, then points move, each if the options ask for it. One unit of the
-- mesh is `fine` units of the new one. The mesh was closed and is, and after a split each edge has two faces. Without flips the faces are
-- those after the split. Flips and moves keep apart what is apart in the mesh before them.
pub record AreMade (options : FinishOptions) (points : List Point) (faces : List (List ℕ)) (new_points : List Point)
    (new_faces : List (List ℕ)) (fine : ℕ) : Type 0 where
  pub kept_points : List Point
  pub kept_faces : List (List ℕ)
  pub split_points : List Point
  pub split_faces : List (List ℕ)
  pub flipped_faces : List (List ℕ)
  pub pieces : ArePiecesIf options.pieces points faces kept_points kept_faces
  pub split : IsSplitIf options.manifold kept_points kept_faces split_points split_faces
  pub flips : AreFlippedIf options.flips split_points split_faces flipped_faces
  pub smooth : IsSmoothedIf options.smoothing split_points flipped_faces new_points new_faces fine
  pub still : options.flips ≡ false → new_faces ≡ split_faces
  pub was_closed : IsBalanced faces
  pub closed : IsBalanced new_faces
  pub two : options.manifold ≡ true → HasTwoFaces new_faces

-- this mesh was made, and if vertices were split the faces around each vertex are one cycle
pub record AreFinished (options : FinishOptions) (points : List Point) (faces : List (List ℕ)) (new_points : List Point)
    (new_faces : List (List ℕ)) (fine : ℕ) : Type 0 where
  pub made : AreMade options points faces new_points new_faces fine
  pub umbrellas : options.manifold ≡ true → AreUmbrellas (length new_points) new_faces

-- a mesh that was made of this one, in which the faces around some vertex are not one cycle
pub record IsNoManifold (options : FinishOptions) (points : List Point) (faces : List (List ℕ)) : Type 0 where
  pub new_points : List Point
  pub new_faces : List (List ℕ)
  pub fine : ℕ
  pub made : AreMade options points faces new_points new_faces fine
  pub no : AreUmbrellas (length new_points) new_faces → ⊥

-- what the options ask for, and what became of it, if a step did not pass its verification
abbrev pub IsUnverifiedStep : FinishOptions → List Point → List (List ℕ) → Step → Type 0
IsUnverifiedStep options points faces Pieces = (most : ℕ) × (options.pieces ≡ Some most)
IsUnverifiedStep options points faces Umbrellas = (options.manifold ≡ true) × IsNoManifold options points faces

-- the first edge that is not balanced, or that all are and what the options ask for; out of memory states nothing
abbrev pub ExplainsFinish : FinishOptions → List Point → List (List ℕ) → FinishError → Type 0
ExplainsFinish options points faces (NotClosed e) = IsFirstUnbalanced faces e.from e.to e.there e.back
ExplainsFinish options points faces (Unverified step) = IsBalanced faces × IsUnverifiedStep options points faces step
ExplainsFinish options points faces NoMemory = ⊤
