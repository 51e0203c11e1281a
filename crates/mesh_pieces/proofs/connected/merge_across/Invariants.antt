use Rattle.std.proofs.Common.{length}
use Rattle.mesh_pieces.specs.Chosen.{AreAcrossSets}
use Rattle.mesh_pieces.proofs.connected.merge_across.Given as goal

abbrev pub invariant-loop-h : goal.invariant-loop-h
invariant-loop-h l = AreAcrossSets l.twins (length l.faces) l.h l.sets.parents.items
