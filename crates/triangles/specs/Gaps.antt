-- Faces that are apart but for common corners.
--
--   IsCommon f g u v w          a corner of f that g does not have has the weight 0
--   AreFacesApart points f g    each point that both faces contain is one of their common corners, or on the edge
--                               between two of these. Points of a face are stated as weighted means of its corners, for
--                               all integer weights
use Rattle.std.specs.Prelude.{ℕ, ◌≡◌, ◌+◌, ◌⊎◌, false, List, [], ◌∷◌}
use Rattle.geo_sign.specs.Point.{Point}
use Rattle.mesh.specs.Meshes.{is_vertex_of, point_at}
use Rattle.triangles.specs.Shared.{weighted}

-- corners of the first that the second has not have the weight 0
abbrev pub IsCommon : (f g : List ℕ) → (u v w : ℕ) → Type 0
IsCommon (a ∷ b ∷ c ∷ []) g u v w =
    (is_vertex_of a g ≡ false → u ≡ 0) × (is_vertex_of b g ≡ false → v ≡ 0) × (is_vertex_of c g ≡ false → w ≡ 0)
IsCommon _ g u v w = ⊥

-- Where weights of both faces give one point, the one or the other's weights are 0 but at common corners.
abbrev pub AreFacesApart : List Point → (f g : List ℕ) → Type 0
AreFacesApart points (a ∷ b ∷ c ∷ []) (d ∷ e ∷ h ∷ []) =
    (u v w x y z : ℕ) → u + v + w ≡ x + y + z
    → weighted (point_at points a) (point_at points b) (point_at points c) u v w
    ≡ weighted (point_at points d) (point_at points e) (point_at points h) x y z
    → IsCommon (a ∷ b ∷ c ∷ []) (d ∷ e ∷ h ∷ []) u v w ⊎ IsCommon (d ∷ e ∷ h ∷ []) (a ∷ b ∷ c ∷ []) x y z
AreFacesApart points _ _ = ⊥
