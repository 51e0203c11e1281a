use Rattle.mesh_edges.specs.Umbrellas.{AreMerged}
use Rattle.mesh_edges.proofs.umbrellas.merge_around.Given as goal

abbrev pub invariant-loop-h : goal.invariant-loop-h
invariant-loop-h l = AreMerged l.faces l.twins l.h l.sets.parents.items
