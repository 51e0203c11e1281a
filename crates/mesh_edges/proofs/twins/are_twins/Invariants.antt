use Rattle.std.proofs.Common.{ℕ, ◌<◌}
use Rattle.mesh_edges.specs.HalfEdges.{IsTwin}
use Rattle.mesh_edges.proofs.twins.are_twins.Given as goal

abbrev pub invariant-loop-h : goal.invariant-loop-h
invariant-loop-h l = (k : ℕ) → k < l.h → IsTwin l.faces l.twins k
