use Rattle.std.proofs.Common.{arith}
use Rattle.triangles.proofs.tree.HullTree.near.Goals as goal

pub returns-clause-found : goal.returns-clause-found
returns-clause-found c = λ i h l insert.
    c.in_ok-gather.ensures.found i h insert (record { from = omega (arith, c.args.self.now.even); to = omega (arith, c.args.self.now.even) })
