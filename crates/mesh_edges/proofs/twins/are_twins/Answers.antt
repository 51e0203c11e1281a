use Rattle.std.proofs.Common.{below_more}
use Rattle.mesh_edges.specs.HalfEdges.{IsTwin}
use Rattle.mesh_edges.proofs.twins.are_twins.Goals as goal

pub loop-h-preserved : goal.loop-h-preserved
loop-h-preserved c =
    below_more (λ k. IsTwin c.args.faces.now c.args.twins.now k) c.loop-h.h c.loop-h.invariant c.if-not-is_twin.ensures.yes
