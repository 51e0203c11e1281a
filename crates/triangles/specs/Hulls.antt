-- Axis-parallel boxes.
--
--   HoldsPoint h p    the point is in the box
--   HoldsHull h g     the box contains another
--   AreOff h g        along some axis one is below the other
use Rattle.std.specs.Prelude.{◌⊎◌, ◌≤ℤ◌}
use Rattle.geo_sign.specs.Point.{Point}
use Rattle.triangles.specs.Spans.{HoldsSpan, AreSpansOff}
use Rattle.triangles.specs.declared.hull.Hull.{Hull}

-- the point is in the box
pub record HoldsPoint (h : Hull) (p : Point) : Type 0 where
  pub x_low : h.x.low ≤ℤ p.x
  pub x_high : p.x ≤ℤ h.x.high
  pub y_low : h.y.low ≤ℤ p.y
  pub y_high : p.y ≤ℤ h.y.high
  pub z_low : h.z.low ≤ℤ p.z
  pub z_high : p.z ≤ℤ h.z.high

-- the box contains another
pub record HoldsHull (h g : Hull) : Type 0 where
  pub x : HoldsSpan h.x g.x
  pub y : HoldsSpan h.y g.y
  pub z : HoldsSpan h.z g.z

-- along some axis one is below the other
abbrev pub AreOff : (h g : Hull) → Type 0
AreOff h g = AreSpansOff h.x g.x ⊎ (AreSpansOff h.y g.y ⊎ AreSpansOff h.z g.z)
