use Rattle.mesh_edges.proofs.Walks.{exchanged}
use Rattle.mesh_edges.proofs.walk.exchange.Goals as goal

pub returns : goal.returns
returns c =
    exchanged c.requires.paired.0 c.args.twins.now c.args.one c.args.other c.requires.paired.1 c.requires.one c.requires.other
    c.requires.differ c.requires.apart
