use Rattle.triangles.proofs.Apart.{apart, on_yes}
use Rattle.triangles.proofs.gap.are_apart.Goals as goal

pub returns : goal.returns
returns c =
    on_yes c.is_gap.result
    (apart c.args.points.now c.args.one c.args.other c.triangle_of.result c.triangle_of-2.result _ c.common_corners.ensures
    c.common_corners-2.ensures c.triangle_of.ensures c.triangle_of-2.ensures)
    c.is_gap.ensures
