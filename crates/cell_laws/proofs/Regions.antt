-- What the proofs suppose of vertices, in the form that they use. Each is proved once of vertices of the box with the heights
-- of the tie rule: Heights, Box and Goal.
--
--   IsGeneric v       the power is zero at a cell's own vertices alone
--   IsConvex v        a vertex that lies in a cell is in conflict with it or one of its own
--   IsOuter v a b c   all vertices that are in are before the facet or in its plane
--   IsInner v p       p is before each outer facet
--   IsGoal v p q      q is near p, and in the plane of no facet of a cell
--
-- Stands on: the definitions alone.
use Rattle.std.specs.Prelude.{ℕ, ◌<◌, ◌≡◌, ◌≢◌, pos, ◌<ℤ◌, ◌≤ℤ◌, ◌⊎◌}
use Rattle.geo_sign.specs.Rational.{rational, RationalPoint, side}
use Rattle.geo_sign.specs.Cells.{IsCell}
use Rattle.geo_sign.specs.Tetrahedron.{Tetrahedron}
use Rattle.geo_sign.specs.Vertices.{Has, orientation_of, power_of, Vertices}
use Rattle.geo_sign.specs.Places.{IsLyingIn}
use Rattle.geo_sign.specs.Writings.{IsVertexOf}

abbrev pub IsGeneric : Vertices → Type 0
IsGeneric v =
    (a b c d u : ℕ) → a < v.count → b < v.count → c < v.count → d < v.count → u < v.count → pos 0 <ℤ orientation_of v a b c d
    → power_of v a b c d u ≡ pos 0
    → (u ≡ a) ⊎ ((u ≡ b) ⊎ ((u ≡ c) ⊎ (u ≡ d)))

abbrev pub IsConvex : Vertices → Type 0
IsConvex v =
    (t : Tetrahedron) (u : ℕ) → t.a < v.count → t.b < v.count → t.c < v.count → t.d < v.count → u < v.count
    → pos 0 <ℤ orientation_of v t.a t.b t.c t.d → IsLyingIn v t (rational (v.at u))
    → pos 0 ≤ℤ power_of v t.a t.b t.c t.d u → IsVertexOf t u

abbrev pub IsOuter : Vertices → (a b c : ℕ) → Type 0
IsOuter v a b c = (u : ℕ) → Has v u → pos 0 ≤ℤ orientation_of v a b c u

-- not behind it; nor in its plane, where some vertex is before it
pub record IsInner (v : Vertices) (p : ℕ) : Type 0 where
  pub weak : (a b c : ℕ) → IsOuter v a b c → pos 0 ≤ℤ orientation_of v a b c p
  pub strict : (a b c d : ℕ) → Has v d → pos 0 <ℤ orientation_of v a b c d → IsOuter v a b c → pos 0 <ℤ orientation_of v a b c p

pub record IsGoal (v : Vertices) (p : ℕ) (q : RationalPoint) : Type 0 where
  pub near : (a b c d : ℕ) → IsCell v a b c d → side (v.at a) (v.at b) (v.at c) q <ℤ pos 0 → orientation_of v a b c p ≤ℤ pos 0
  pub sure : (a b c d : ℕ) → IsCell v a b c d → side (v.at a) (v.at b) (v.at c) q ≢ pos 0
  pub inside : (a b c d : ℕ) → IsCell v a b c d → IsOuter v a b c → pos 0 ≤ℤ side (v.at a) (v.at b) (v.at c) q
