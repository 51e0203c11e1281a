-- Parts of a face.
--
--   plus p q       the sum of two points
--   IsNearBy within m q a b c u v w     the weights have the sum 2^20, and their mean is at most `within` from q / m
--   IsCornerNear within points m q f    some such weights give a point of a face
use Rattle.std.specs.Prelude.{ℕ, ◌≡◌, ◌+◌, ◌*◌, ◌^◌, pos, ◌+ℤ◌, ◌≤ℤ◌, List, [], ◌∷◌}
use Rattle.geo_sign.specs.Point.{Point, point, step, square}
use Rattle.mesh.specs.Meshes.{point_at}
use Rattle.triangles.specs.Shared.{weighted}
use Rattle.mesh_cover.specs.Covers.{times}

-- the sum of two points
abbrev pub plus : Point → Point → Point
plus p q = point (p.x +ℤ q.x) (p.y +ℤ q.y) (p.z +ℤ q.z)

-- the weights have the sum 2^20, and their mean is near
pub record IsNearBy (within m : ℕ) (q a b c : Point) (u v w : ℕ) : Type 0 where
  pub total : u + v + w ≡ 2 ^ 20
  pub near : square (step (times (2 ^ 20) q) (times m (weighted a b c u v w))) ≤ℤ pos (m * 2 ^ 20 * within * (m * 2 ^ 20 * within))

-- some such weights give a point of the face
abbrev pub IsCornerNear : (within : ℕ) → List Point → (m : ℕ) → Point → List ℕ → Type 0
IsCornerNear within points m q (a ∷ b ∷ c ∷ []) =
    (u : ℕ) × (v : ℕ) × (w : ℕ) × IsNearBy within m q (point_at points a) (point_at points b) (point_at points c) u v w
IsCornerNear within points m q _ = ⊥
