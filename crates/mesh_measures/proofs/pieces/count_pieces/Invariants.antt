use Rattle.std.proofs.Common.{◌<◌, ◌≤◌}
use Rattle.mesh_edges.specs.Things.{AreSoMany}
use Rattle.mesh_measures.specs.Pieces.{IsFirstOfPiece}
use Rattle.mesh_measures.proofs.pieces.count_pieces.Given as goal

abbrev pub invariant-loop-f : goal.invariant-loop-f
invariant-loop-f l = record { few : l.count ≤ l.f; many : AreSoMany (λ f. (f < l.f) × IsFirstOfPiece l.faces f) l.count }
