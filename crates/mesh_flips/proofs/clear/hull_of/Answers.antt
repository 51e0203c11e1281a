use Rattle.mesh_flips.proofs.Off.{held_face}
use Rattle.mesh_flips.proofs.clear.hull_of.Goals as goal

pub returns : goal.returns
returns c =
    held_face _ c.args.points.now c.of_points.result c.args.face _ _ _ c.requires c.place.ensures c.place-2.ensures
    c.place-3.ensures c.of_points.ensures.p c.of_points.ensures.q c.of_points.ensures.r
