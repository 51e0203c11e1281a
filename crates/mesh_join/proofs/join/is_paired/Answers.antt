use Rattle.std.proofs.Common.{List, ℕ, length, subst, Bool, true, false}
use Rattle.std.specs.Bool.{OnTrue}
use Rattle.std.specs.List.{All}
use Rattle.mesh.specs.Meshes.{IsFace}
use Rattle.mesh_edges.specs.Edges.{IsBalanced}
use Rattle.mesh_edges.specs.HalfEdges.{ArePaired}
use Rattle.mesh_edges.specs.Laws.{PairedAreClosed}
use Rattle.mesh_join.proofs.join.is_paired.Goals as goal

closed : PairedAreClosed → (n : ℕ) (faces : List (List ℕ)) (twins : List ℕ) → All (IsFace n) faces → (b : Bool)
    → OnTrue b (ArePaired faces twins) → OnTrue b (IsBalanced faces)
closed law n faces twins each true paired = law n faces twins each paired
closed law n faces twins each false paired = tt

pub returns : goal.returns
returns c =
    closed c.paired_meshes_are_closed.ensures (length c.args.mesh.now.points.items) c.args.mesh.now.faces.items c.args.twins.now
    c.requires.each c.are_twins.result
    (subst (λ (fs : List (List ℕ)). OnTrue c.are_twins.result (ArePaired fs c.args.twins.now)) c.deref.ensures.value c.are_twins.ensures.yes)
