use Rattle.std.proofs.Common.{arith}
use Rattle.mesh_simplify.proofs.EdgeKeys.{rises, at_most_once}
use Rattle.mesh_simplify.proofs.distinct.are_single.Goals as goal

pub returns : goal.returns
returns c =
    λ k. at_most_once c.args.keys.now k
    (rises c.args.keys.now c.requires (λ j l. c.loop-at.invariant j (omega arith)))
