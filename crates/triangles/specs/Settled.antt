-- What shows that two triangles are apart.
--
--   AreCovered excluded common       each corner that is not common is excluded
--   AreCommon m u v w             corners that are not marked have the weight 0
--   AreSettled s t common         at each point that both triangles contain, the weights of one of the two are 0 except
--                                 at common corners
--   AreMarks f g m                the marks say which corners of f are corners of g
--   IsTriangleOf points f t       t has the points of f
use Rattle.std.specs.Prelude.{ℕ, ◌≡◌, ◌⊎◌, true, false, List, [], ◌∷◌}
use Rattle.geo_sign.specs.Point.{Point}
use Rattle.mesh.specs.Meshes.{is_vertex_of, point_at}
use Rattle.triangles.specs.Shared.{Weights, IsShared}
use Rattle.triangles.specs.declared.corners.Triangle.{Triangle}
use Rattle.triangles.specs.declared.corners.Excluded.{Excluded}
use Rattle.triangles.specs.declared.corners.Marks.{Marks}

-- each corner that is not common is excluded
pub record AreCovered (excluded common : Marks) : Type 0 where
  pub p : common.p ≡ false → excluded.p ≡ true
  pub q : common.q ≡ false → excluded.q ≡ true
  pub r : common.r ≡ false → excluded.r ≡ true

-- corners that are not marked have the weight 0
pub record AreCommon (m : Marks) (u v w : ℕ) : Type 0 where
  pub p : m.p ≡ false → u ≡ 0
  pub q : m.q ≡ false → v ≡ 0
  pub r : m.r ≡ false → w ≡ 0

-- at each point that both contain
abbrev pub AreSettled : Triangle → Triangle → Excluded → Type 0
AreSettled s t common = (n : Weights) → IsShared s t n → AreCommon common.one n.p n.q n.r ⊎ AreCommon common.other n.x n.y n.z

-- which corners of f are corners of g
abbrev pub AreMarks : (f g : List ℕ) → Marks → Type 0
AreMarks (a ∷ b ∷ c ∷ []) g m = (m.p ≡ is_vertex_of a g) × (m.q ≡ is_vertex_of b g) × (m.r ≡ is_vertex_of c g)
AreMarks _ g m = ⊥

-- the triangle has the points of the face
abbrev pub IsTriangleOf : List Point → List ℕ → Triangle → Type 0
IsTriangleOf points (a ∷ b ∷ c ∷ []) t = (t.p ≡ point_at points a) × (t.q ≡ point_at points b) × (t.r ≡ point_at points c)
IsTriangleOf points _ t = ⊥
