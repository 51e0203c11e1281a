-- The sign of a power under symbolic perturbation is never zero and does not depend on the exponent.
--
--   IsFifth v t u     four vertices positively oriented, and a fifth that is none of them
--   IsSettled v t u   its power is not zero, and has one sign at the heights of every exponent above the five numbers
--   TieLaw            the power of a fifth vertex is not zero, and its sign is the same at every exponent above the
--                     five numbers
use Rattle.std.specs.Prelude.{ℕ, ◌<◌, ◌≡◌, ◌≢◌, ℤ, pos, ◌<ℤ◌}
use Rattle.geo_sign.specs.Signs.{sign_of}
use Rattle.geo_sign.specs.Tetrahedron.{Tetrahedron}
use Rattle.geo_sign.specs.Tie.{tied_power}
use Rattle.geo_sign.specs.Vertices.{Vertices, orientation_of, power_of}
use Rattle.geo_sign.specs.Boxes.{IsBoxed}
use Rattle.geo_sign.specs.Writings.{IsVertexOf}

-- whether they are in or not
pub record IsFifth (v : Vertices) (t : Tetrahedron) (u : ℕ) : Type 0 where
  pub a_below : t.a < v.count
  pub b_below : t.b < v.count
  pub c_below : t.c < v.count
  pub d_below : t.d < v.count
  pub below : u < v.count
  pub positive : pos 0 <ℤ orientation_of v t.a t.b t.c t.d
  pub other : ¬ IsVertexOf t u

-- the power of a fifth vertex at a tetrahedron, at the heights that the symbolic perturbation has for n vertices, even
-- if there are more or fewer
abbrev pub power_among : ℕ → Vertices → Tetrahedron → ℕ → ℤ
power_among n v t u = tied_power n (t.a, v.at t.a) (t.b, v.at t.b) (t.c, v.at t.c) (t.d, v.at t.d) (u, v.at u)

pub record IsSettled (v : Vertices) (t : Tetrahedron) (u : ℕ) : Type 0 where
  pub not_zero : power_of v t.a t.b t.c t.d u ≢ pos 0
  pub same_sign :
      (n : ℕ) → t.a < n → t.b < n → t.c < n → t.d < n → u < n →
      sign_of (power_among n v t u) ≡ sign_of (power_of v t.a t.b t.c t.d u)

abbrev pub TieLaw : Type 0
TieLaw = (v : Vertices) → IsBoxed v → (t : Tetrahedron) (u : ℕ) → IsFifth v t u → IsSettled v t u
