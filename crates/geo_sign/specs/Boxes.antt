-- Vertices of the box, in or not, and one vertex more.
--
--   inserted_vertices points flags   the box's corners and the points, at the heights of all of them. The vertices with
--                                    a flag are inserted
--   IsTied v                         all vertices have the heights of the symbolic perturbation
--   IsBoxed v                        vertices of the box. The corners are vertices 0 to 7, in their places, and
--                                    inserted. The others are data points, inserted or not. No two are at one point.
--                                    Heights are by the symbolic perturbation
--   with_vertex v p                  the same vertices, and p is inserted too
--   IsNew v p                        p is a data point that is not inserted yet
--   IsInConflict v p t, IsClearOf v p t   the power of p at t is negative; it is not
use Rattle.std.specs.Prelude.{ℕ, ◌<◌, ◌≤◌, ◌≡◌, ◌+◌, ◌==◌, ◌||◌, Bool, false, pos, ◌<ℤ◌, ◌≤ℤ◌, List, length, get_or}
use Rattle.geo_sign.specs.declared.point.TheConstants.{CORNERS, DATA_LIMIT}
use Rattle.geo_sign.specs.Point.{Point, IsWithin, corner_point}
use Rattle.geo_sign.specs.Tetrahedron.{Tetrahedron}
use Rattle.geo_sign.specs.Tie.{height}
use Rattle.geo_sign.specs.Vertices.{Vertices, Has, point_of, power_of}

-- the box's corners and these points, with the heights of all of them; those with a flag are in
abbrev pub inserted_vertices : List Point → List Bool → Vertices
inserted_vertices points flags =
    record {
      at = point_of points;
      high = λ u. height (CORNERS + length points) u (point_of points u);
      count = CORNERS + length points;
      is_in = λ u. get_or flags u false;
    }

-- each height is that of the symbolic perturbation
abbrev pub IsTied : Vertices → Type 0
IsTied v = (u : ℕ) → v.high u ≡ height v.count u (v.at u)

-- The corners are vertices 0 to 7 and are in, the other vertices are data points, no two are at one point, and all have
-- the heights of the symbolic perturbation. Which of the data points are in is left open.
pub record IsBoxed (v : Vertices) : Type 0 where
  pub corner_in : (k : ℕ) → k < CORNERS → Has v k
  pub corner_at : (k : ℕ) → k < CORNERS → v.at k ≡ corner_point k
  pub data_at : (u : ℕ) → CORNERS ≤ u → u < v.count → IsWithin DATA_LIMIT (v.at u)
  pub apart : (u w : ℕ) → u < v.count → w < v.count → v.at u ≡ v.at w → u ≡ w
  pub tied : IsTied v

-- the number of vertices is that of all, so no height changes
abbrev pub with_vertex : Vertices → ℕ → Vertices
with_vertex v p = record { at = v.at; high = v.high; count = v.count; is_in = λ u. (u == p) || v.is_in u }

-- a data point that is not in yet
pub record IsNew (v : Vertices) (p : ℕ) : Type 0 where
  pub above : CORNERS ≤ p
  pub below : p < v.count
  pub out : v.is_in p ≡ false

-- p is in conflict with a positively oriented cell if its power is negative
abbrev pub IsInConflict : Vertices → (p : ℕ) → Tetrahedron → Type 0
IsInConflict v p t = power_of v t.a t.b t.c t.d p <ℤ pos 0

abbrev pub IsClearOf : Vertices → (p : ℕ) → Tetrahedron → Type 0
IsClearOf v p t = pos 0 ≤ℤ power_of v t.a t.b t.c t.d p
