-- Faces without area.
--
--   IsFlat points f     the three corners of a face are on one line, or two of them at one place
use Rattle.std.specs.Prelude.{ℕ, ◌≡◌, List, [], ◌∷◌}
use Rattle.geo_sign.specs.Point.{Point, origin, step, cross}
use Rattle.mesh.specs.Meshes.{point_at}

-- the vector product of two sides is zero
abbrev pub IsFlat : List Point → List ℕ → Type 0
IsFlat points (a ∷ b ∷ c ∷ []) =
    cross (step (point_at points a) (point_at points b)) (step (point_at points a) (point_at points c)) ≡ origin
IsFlat points _ = ⊥
