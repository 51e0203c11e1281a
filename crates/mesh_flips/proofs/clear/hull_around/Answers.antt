use Rattle.std.proofs.Common.{subst}
use Rattle.geo_sign.specs.Point.{Point}
use Rattle.triangles.specs.Hulls.{HoldsPoint}
use Rattle.mesh_flips.proofs.clear.hull_around.Goals as goal

pub returns : goal.returns
returns c = (
  subst (λ (p : Point). HoldsPoint c.of_points.result p) c.place.ensures c.of_points.ensures.p,
  subst (λ (p : Point). HoldsPoint c.of_points.result p) c.place-2.ensures c.of_points.ensures.q,
  subst (λ (p : Point). HoldsPoint c.of_points.result p) c.place-3.ensures c.of_points.ensures.r,
)
