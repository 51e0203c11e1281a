use Rattle.triangles.proofs.tree.HullTree.+gather.Given as goal

abbrev pub decreases-gather : goal.decreases-gather
decreases-gather l = l.height
