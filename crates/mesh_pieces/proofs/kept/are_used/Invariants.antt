use Rattle.std.proofs.Common.{ℕ, ◌<◌}
use Rattle.mesh_pieces.specs.Copies.{IsCornerOf}
use Rattle.mesh_pieces.proofs.kept.are_used.Given as goal

abbrev pub invariant-loop-w : goal.invariant-loop-w
invariant-loop-w l = (k : ℕ) → k < l.w → (f : ℕ) × IsCornerOf l.faces k f
