use Rattle.mesh_flips.proofs.Off.{off_apart}
use Rattle.mesh_smooth.proofs.marking.is_gap.Goals as goal

pub returns-then-not-meets : goal.returns-then-not-meets
returns-then-not-meets c =
    off_apart c.args.points.now c.args.hull c.hull_of.result c.args.face c.args.other c.requires.hull c.hull_of.ensures
    c.if-not-meets.ensures
