use Rattle.mesh_measures.proofs.Merged.{IsMergedTo}
use Rattle.mesh_measures.proofs.merges.merge_parts.Given as goal

abbrev pub invariant-loop-i : goal.invariant-loop-i
invariant-loop-i l = IsMergedTo l.part l.sides l.initial.sets.parents.items l.sets.parents.items l.i
