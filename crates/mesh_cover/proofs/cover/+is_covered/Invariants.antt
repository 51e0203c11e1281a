use Rattle.mesh_cover.proofs.cover.+is_covered.Given as goal

abbrev pub decreases-is_covered : goal.decreases-is_covered
decreases-is_covered l = l.depth
