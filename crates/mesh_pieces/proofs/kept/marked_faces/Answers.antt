use Rattle.std.proofs.Common.{ℕ, ◌≡◌, refl, ap, ◌∙◌, arith, [], length, get_or, map}
use Rattle.mesh.specs.Marks.{marked}
use Rattle.mesh_edges.specs.Edges.{face_at}
use Rattle.mesh_pieces.proofs.Marked.{faces_more, few_kept}
use Rattle.mesh_pieces.proofs.kept.marked_faces.Goals as goal

pub loop-f-preserved : goal.loop-f-preserved
loop-f-preserved c =
    faces_more c.args.faces.now c.args.kept.now c.loop-f.f c.is_kept.result (get_or c.args.faces.now c.loop-f.f []) c.loop-f.list.items
    c.push_if.new.list.items c.is_kept.ensures refl c.loop-f.invariant c.in_ok-push_if.ensures

pub returns-clause-few : goal.returns-clause-few
returns-clause-few c =
    let faces = c.args.faces.now in
    let kept = c.args.kept.now in
    let end : c.loop-f.f ≡ length faces = omega (arith, c.loop-f-test.false, c.loop-f.auto.f-end) in
    few_kept faces c.loop-f.list.items kept
    (c.loop-f.invariant ∙ ap (λ (n : ℕ). map (face_at faces) (marked kept n)) end)
