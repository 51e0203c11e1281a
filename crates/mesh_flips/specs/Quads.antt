-- Two faces with a common edge, and the flip of that edge.
--
--   IsQuad faces one other q    the faces with the numbers `one` and `other` are a b c and b a d, and c and d are
--                               distinct
--   flipped faces one other q   the list with a d c and d b c in their places
--   HasCorners n q              the four corners of the quad q are numbers below n
use Rattle.std.specs.Prelude.{ℕ, ◌≢◌, ◌<◌, List, [], ◌∷◌, length, slice_set}
use Rattle.mesh_edges.specs.Edges.{face_at}
use Rattle.mesh_flips.specs.Turns.{IsCycled}
use Rattle.mesh_flips.specs.declared.quad.Quad.{Quad}

-- One face is a b c and the other b a d, with another third corner. So the edge between a and b is common to both.
pub record IsQuad (faces : List (List ℕ)) (one other : ℕ) (q : Quad) : Type 0 where
  pub one_within : one < length faces
  pub other_within : other < length faces
  pub two : one ≢ other
  pub first : IsCycled (face_at faces one) (q.a ∷ q.b ∷ q.c ∷ [])
  pub second : IsCycled (face_at faces other) (q.b ∷ q.a ∷ q.d ∷ [])
  pub far : q.c ≢ q.d

-- a b c and b a d become a d c and d b c
abbrev pub flipped : List (List ℕ) → (one other : ℕ) → Quad → List (List ℕ)
flipped faces one other q = slice_set (slice_set faces one (q.a ∷ q.d ∷ q.c ∷ [])) other (q.d ∷ q.b ∷ q.c ∷ [])

-- the corners are points
pub record HasCorners (n : ℕ) (q : Quad) : Type 0 where
  pub a : q.a < n
  pub b : q.b < n
  pub c : q.c < n
  pub d : q.d < n
