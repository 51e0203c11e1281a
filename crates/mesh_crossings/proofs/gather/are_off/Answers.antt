use Rattle.mesh_flips.proofs.Off.{off_apart}
use Rattle.mesh_crossings.proofs.gather.are_off.Goals as goal

pub returns-then-not-meets : goal.returns-then-not-meets
returns-then-not-meets c =
    off_apart c.args.points.now c.hull_of-hull.result c.hull_of.result c.args.one c.args.other c.hull_of-hull.ensures c.hull_of.ensures
    c.if-not-meets.ensures
