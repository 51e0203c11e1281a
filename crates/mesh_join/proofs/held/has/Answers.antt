use Rattle.mesh_join.proofs.Found.{found}
use Rattle.mesh_join.proofs.held.has.Goals as goal

pub returns : goal.returns
returns c =
    rw c.is_ok.ensures.value
    (found c.args.faces.now c.args.face c.binary_search.result c.requires c.binary_search.ensures.bound c.binary_search.ensures.position)
