-- Points near a face. One unit of the point is `fine` units of the face's corners.
--
--   IsNearAt fine within p a b c u v w   the weighted mean of three corners is at most `within` units of the point from it
--   IsNearFace fine within p points f    some point of a face is
--
-- The points of a triangle with whole corners are their weighted means, and whole weights give a mean as near as one likes to each of
-- them. All lengths are multiplied by the sum of the weights, so no fraction occurs.
use Rattle.std.specs.Prelude.{ℕ, ◌<◌, ◌+◌, ◌*◌, pos, ◌*ℤ◌, ◌≤ℤ◌, List, [], ◌∷◌}
use Rattle.geo_sign.specs.Point.{Point, point, step, square}
use Rattle.mesh.specs.Meshes.{point_at}
use Rattle.triangles.specs.Shared.{weighted}

-- Not all weights are 0, and the square of the distance between the mean of the corners and the point is at most that of `within`, both
-- in units of the corners and times the sum of the weights.
abbrev pub IsNearAt : (fine within : ℕ) → (p a b c : Point) → (u v w : ℕ) → Type 0
IsNearAt fine within p a b c u v w =
    let scale = (u + v + w) * fine in
    (0 < u + v + w)
    × (square (step (point (pos scale *ℤ p.x) (pos scale *ℤ p.y) (pos scale *ℤ p.z)) (weighted a b c u v w)) ≤ℤ pos (scale * within * (scale * within)))

-- some weights give a point of the face that near
abbrev pub IsNearFace : (fine within : ℕ) → Point → List Point → List ℕ → Type 0
IsNearFace fine within p points (a ∷ b ∷ c ∷ []) =
    (u : ℕ) × (v : ℕ) × (w : ℕ) × IsNearAt fine within p (point_at points a) (point_at points b) (point_at points c) u v w
IsNearFace fine within p points _ = ⊥
