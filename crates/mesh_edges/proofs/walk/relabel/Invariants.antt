use Rattle.std.proofs.Common.{ℕ, length}
use Rattle.mesh_edges.specs.Walks.{IsRelabelled}
use Rattle.mesh_edges.proofs.Corners.{away}
use Rattle.mesh_edges.proofs.walk.relabel.Given as goal

abbrev pub invariant-loop-i : goal.invariant-loop-i
invariant-loop-i l = IsRelabelled l.fn.from l.i l.trail l.label l.initial.labels l.labels
