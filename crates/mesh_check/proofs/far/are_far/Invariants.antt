use Rattle.std.proofs.Common.{ℕ, ◌<◌}
use Rattle.mesh_edges.specs.Edges.{face_at}
use Rattle.mesh_cover.specs.Covers.{IsNearFaceOf}
use Rattle.mesh_check.proofs.far.are_far.Given as goal

abbrev pub invariant-loop-i : goal.invariant-loop-i
invariant-loop-i l = (k : ℕ) → k < l.i → ¬ IsNearFaceOf l.target.within l.points l.target.m l.target.q (face_at l.faces k)
