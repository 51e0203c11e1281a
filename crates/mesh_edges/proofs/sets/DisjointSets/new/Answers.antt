use Rattle.std.proofs.Common.{arith}
use Rattle.mesh_edges.proofs.Tops.{own_apart}
use Rattle.mesh_edges.proofs.sets.DisjointSets.new.Goals as goal

pub returns-clause-apart : goal.returns-clause-apart
returns-clause-apart c = λ i j both.
    own_apart c.loop-i.parents.items i j (λ k l. c.loop-i.invariant.own k (omega arith)) both
