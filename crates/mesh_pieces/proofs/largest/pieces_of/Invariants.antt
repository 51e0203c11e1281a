use Rattle.mesh_pieces.specs.Chosen.{ArePieceKeys}
use Rattle.mesh_pieces.proofs.largest.pieces_of.Given as goal

abbrev pub invariant-loop-f : goal.invariant-loop-f
invariant-loop-f l = ArePieceKeys l.firsts l.sizes l.f l.list.items
