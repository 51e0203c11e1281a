use Rattle.mesh_pieces.specs.Vertices.{AreRoots}
use Rattle.mesh_pieces.proofs.vertices.roots_of.Given as goal

abbrev pub invariant-loop-h : goal.invariant-loop-h
invariant-loop-h l = AreRoots l.faces l.roots l.h l.list.items
