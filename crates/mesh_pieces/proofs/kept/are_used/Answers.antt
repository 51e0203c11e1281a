use Rattle.std.proofs.Common.{ℕ, below_more}
use Rattle.mesh_pieces.specs.Copies.{IsCornerOf}
use Rattle.mesh_pieces.proofs.kept.are_used.Goals as goal

pub loop-w-preserved : goal.loop-w-preserved
loop-w-preserved c =
    below_more (λ k. (f : ℕ) × IsCornerOf c.args.faces.now k f) c.loop-w.w c.loop-w.invariant
    (_, c.if-not-is_corner_of.ensures)
