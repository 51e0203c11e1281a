use Rattle.mesh_flips.proofs.Off.{off_apart}
use Rattle.mesh_flips.proofs.clear.are_known_apart.Goals as goal

pub returns-then-not-meets : goal.returns-then-not-meets
returns-then-not-meets c =
    off_apart c.args.points.now c.args.hull c.args.near c.args.one c.args.other c.requires.hull c.requires.near c.if-not-meets.ensures
