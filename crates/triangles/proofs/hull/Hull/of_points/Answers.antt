use Rattle.triangles.proofs.Growth.{point_in}
use Rattle.triangles.proofs.hull.Hull.of_points.Goals as goal

pub returns-clause-p : goal.returns-clause-p
returns-clause-p c = point_in _ _ _ c.joined.ensures.first (point_in _ _ _ c.joined-two.ensures.first c.of_point.ensures)

pub returns-clause-q : goal.returns-clause-q
returns-clause-q c = point_in _ _ _ c.joined.ensures.first (point_in _ _ _ c.joined-two.ensures.second c.of_point-2.ensures)

pub returns-clause-r : goal.returns-clause-r
returns-clause-r c = point_in _ _ _ c.joined.ensures.second c.of_point-3.ensures
