use Rattle.mesh_flips.proofs.Off.{off_clear}
use Rattle.mesh_flips.proofs.clear.is_clear.Goals as goal

pub returns-then-not-meets : goal.returns-then-not-meets
returns-then-not-meets c =
    off_clear c.args.points.now c.args.quad c.hull_of-hull.result c.args.hulls.both c.args.face c.requires.hulls.both
    c.hull_of-hull.ensures c.if-not-meets.ensures
