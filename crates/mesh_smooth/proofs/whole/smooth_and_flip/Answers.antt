use Rattle.mesh_smooth.proofs.Shapes.{shaped_moved, shaped_flipped, shaped_on}
use Rattle.mesh_smooth.proofs.whole.smooth_and_flip.Goals as goal

pub returns-then-not-flips-clause-shape : goal.returns-then-not-flips-clause-shape
returns-then-not-flips-clause-shape c =
    shaped_moved c.args.points.now c.smooth.new.points c.args.faces.now c.smooth.ensures.smoothed.apart

pub returns-clause-shape : goal.returns-clause-shape
returns-clause-shape c =
    shaped_on c.args.points.now c.smooth.new.points c.smooth.new.points c.args.faces.now c.args.faces.now c.flip_edges.new.faces
    (shaped_moved c.args.points.now c.smooth.new.points c.args.faces.now c.smooth.ensures.smoothed.apart)
    (shaped_flipped c.smooth.new.points c.args.faces.now c.flip_edges.new.faces c.flip_edges.ensures.flipped)
