-- The eight corners of the box: they lie in it, and they are the first vertices by number. With distinct data points behind them
-- they are vertices of the box (boxed_points): corners are told apart by the signs of their coordinates (number), and no corner
-- is a data point.
use Rattle.std.proofs.Common.{ℕ, zero, suc, ◌+◌, ◌<◌, ◌≤◌, ◌≡◌, ◌≢◌, ◌==◌, refl, sym, ap, ◌∙◌, subst, inl, inr, arith, Bool}
use Rattle.std.proofs.Common.{true, cond, int_lt, pos, List, ◌++◌, length, get_or, ◌-◌, AllPairs}
use Rattle.std.proofs.lemmas.Bool.{cases_lt, eqb-true}
use Rattle.std.proofs.lemmas.Int.{ints}
use Rattle.std.proofs.lemmas.List.{length-append, get_or-append_right}
use Rattle.geo_sign.specs.Boxes.{IsBoxed}
use Rattle.geo_sign.specs.Point.{Point, IsWithin, corner_point, origin}
use Rattle.geo_sign.specs.declared.point.TheConstants.{BOX_LIMIT, CORNERS, DATA_LIMIT}
use Rattle.geo_sign.specs.Tie.{height}
use Rattle.geo_sign.specs.Vertices.{corners, point_of}
use Rattle.geo_sign.proofs.Booleans.{every_at}

pub corner_within : (k : ℕ) → IsWithin BOX_LIMIT (corner_point k)
corner_within k = grind (arith, ints)

pub corner_at : (points : List Point) (k : ℕ) → k < CORNERS → point_of points k ≡ corner_point k
corner_at points zero l = refl
corner_at points (suc zero) l = refl
corner_at points (suc (suc zero)) l = refl
corner_at points (suc (suc (suc zero))) l = refl
corner_at points (suc (suc (suc (suc zero)))) l = refl
corner_at points (suc (suc (suc (suc (suc zero))))) l = refl
corner_at points (suc (suc (suc (suc (suc (suc zero)))))) l = refl
corner_at points (suc (suc (suc (suc (suc (suc (suc zero))))))) l = refl
corner_at points (suc (suc (suc (suc (suc (suc (suc (suc k)))))))) l = absurd (omega arith)

-- how many vertices the corners and the points are
pub vertex_count : (points : List Point) → length (corners ++ points) ≡ CORNERS + length points
vertex_count points = length-append corners points

-- the points follow
pub point_after : (points : List Point) (k : ℕ) → CORNERS ≤ k → point_of points k ≡ get_or points (k - CORNERS) origin
point_after points k l = get_or-append_right corners points CORNERS k origin refl l

-- ---- vertices of the box
-- points of which no two are equal stand at one index each
pub apart : (list : List Point) → AllPairs (λ p q. p ≢ q) list → (j k : ℕ) → j < length list → k < length list
    → get_or list j origin ≡ get_or list k origin → j ≡ k
apart list pairs j k l m h = grind arith

-- the number of a corner, from its point
abbrev number : Point → ℕ
number p = cond (int_lt (pos 0) p.x) 1 0 + cond (int_lt (pos 0) p.y) 2 0 + cond (int_lt (pos 0) p.z) 4 0

numbered : (k : ℕ) → k < CORNERS → number (corner_point k) ≡ k
numbered k l = eqb-true (number (corner_point k)) k (every_at 8 (λ i. number (corner_point i) == i) refl k l)

corner_outside : (k : ℕ) → IsWithin DATA_LIMIT (corner_point k) → ⊥
corner_outside k w = grind (arith, ints)

module _ (points : List Point) (within : (k : ℕ) → k < length points → IsWithin DATA_LIMIT (get_or points k origin))
    (distinct : (j k : ℕ) → j < length points → k < length points → get_or points j origin ≡ get_or points k origin → j ≡ k) where
  data_at : (u : ℕ) → CORNERS ≤ u → u < CORNERS + length points → IsWithin DATA_LIMIT (point_of points u)
  data_at u l m =
      subst (λ (p : Point). IsWithin DATA_LIMIT p) (sym (point_after points u l)) (within (u - CORNERS) (omega arith))

  mixed : (k u : ℕ) → k < CORNERS → CORNERS ≤ u → u < CORNERS + length points → point_of points k ≡ point_of points u → ⊥
  mixed k u h l m e =
      corner_outside k (subst (λ (p : Point). IsWithin DATA_LIMIT p) (sym e ∙ corner_at points k h) (data_at u l m))

  vertices_apart : (u w : ℕ) → u < CORNERS + length points → w < CORNERS + length points → point_of points u ≡ point_of points w
      → u ≡ w
  vertices_apart u w hu hw e = elim (cases_lt u CORNERS) [
    | inl h ↦ elim (cases_lt w CORNERS) [
      | inl k ↦ sym (numbered u h) ∙ ap number (sym (corner_at points u h) ∙ e ∙ corner_at points w k) ∙ numbered w k
      | inr k ↦ absurd (mixed u w h k hw e)
    ]
    | inr h ↦ elim (cases_lt w CORNERS) [
      | inl k ↦ absurd (mixed w u k h hu (sym e))
      | inr k ↦
          let d =
          distinct (u - CORNERS) (w - CORNERS) (omega arith) (omega arith)
          (sym (point_after points u h) ∙ e ∙ point_after points w k) in
          omega arith
    ]
  ]

  -- the corners and these points, of which the corners and maybe others are in
  pub boxed_points : (is_in : ℕ → Bool) → ((k : ℕ) → k < CORNERS → is_in k ≡ true)
      → IsBoxed (record {
        at = point_of points;
        high = λ u. height (CORNERS + length points) u (point_of points u);
        count = CORNERS + length points;
        is_in = is_in;
      })
  boxed_points is_in corners_in =
      record {
        corner_in = λ k h. (omega arith, corners_in k h);
        corner_at = corner_at points;
        data_at = data_at;
        apart = vertices_apart;
        tied = λ u. refl;
      }
