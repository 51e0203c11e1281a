use Rattle.std.proofs.Common.{ℕ, List, sym, subst}
use Rattle.mesh_edges.specs.Edges.{IsBalanced}
use Rattle.mesh_pieces.specs.Splits.{AreSingle}
use Rattle.mesh_finish.proofs.whole.flip_mesh.Goals as goal

pub returns-clause-closed : goal.returns-clause-closed
returns-clause-closed c = λ closed.
    c.in_ok-faces.ensures.closed (subst (λ (faces : List (List ℕ)). IsBalanced faces) (sym c.deref-2.ensures.value) closed)

pub returns-clause-single : goal.returns-clause-single
returns-clause-single c = λ once.
    c.in_ok-faces.ensures.single (subst (λ (faces : List (List ℕ)). AreSingle faces) (sym c.deref-2.ensures.value) once)
