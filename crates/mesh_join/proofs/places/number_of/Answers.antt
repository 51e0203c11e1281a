use Rattle.mesh_join.proofs.PlaceOrder.{none_at}
use Rattle.mesh_join.proofs.places.number_of.Goals as goal

pub returns-clause-none : goal.returns-clause-none
returns-clause-none c =
    none_at c.number_at.result c.args.places.now c.args.point c.position_of.result c.requires.rising c.position_of.ensures.before
    c.position_of.ensures.after c.number_at.ensures.none
