use Rattle.mesh_flips.proofs.Turning.{turned_flipped, turned_ready}
use Rattle.mesh_flips.proofs.driving.turn.Goals as goal

pub returns-clause-flipped : goal.returns-clause-flipped
returns-clause-flipped c =
    turned_flipped _ _ _ c.args.site.one c.args.site.other c.args.site.quad c.requires.ready.each c.requires.lie c.flip.ensures c.requires.free

pub returns-clause-ready : goal.returns-clause-ready
returns-clause-ready c =
    turned_ready _ _ _ c.args.site.one c.args.site.other c.args.site.quad c.requires.ready.each c.requires.lie c.flip.ensures _ c.insert.new.self
    c.insert-2.new.self _ _ c.requires.ready c.hull_of.ensures c.hull_of-2.ensures c.insert.ensures.insert c.insert-2.ensures.insert
    c.insert.ensures.kept c.insert-2.ensures.kept c.insert.ensures.same c.insert-2.ensures.same
