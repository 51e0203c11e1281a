use Rattle.std.proofs.Common.{List, ℕ, subst}
use Rattle.mesh_edges.specs.Edges.{IsBalanced}
use Rattle.mesh_edges.specs.HalfEdges.{ArePaired}
use Rattle.mesh_edges.proofs.pairing.twins_of.Goals as goal

pub returns : goal.returns
returns c =
    subst (λ (fs : List (List ℕ)). IsBalanced fs → ArePaired fs c.in_ok-twins.twins.items) c.deref-3.ensures.value c.in_ok-twins.ensures
