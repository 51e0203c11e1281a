-- One vertex more: which cells it is in conflict with, and the facets over which it makes new cells.
--
--   IsOnFan v p a b c       a facet on the boundary of the conflict region of p: of a cell in conflict with p, with no
--                           adjacent cell or one without conflict
use Rattle.std.specs.Prelude.{ℕ, pos, ◌<ℤ◌, ◌≤ℤ◌}
use Rattle.geo_sign.specs.Vertices.{Vertices, power_of}
use Rattle.geo_sign.specs.Cells.{IsCell}

-- the cell over the facet is in conflict with p, and no adjacent cell at it is
pub record IsOnFan (v : Vertices) (p a b c : ℕ) : Type 0 where
  pub apex : ℕ
  pub cell : IsCell v a b c apex
  pub conflict : power_of v a b c apex p <ℤ pos 0
  pub outside : (e : ℕ) → IsCell v a c b e → pos 0 ≤ℤ power_of v a c b e p
