use Rattle.std.proofs.Common.{ℕ, refl, ap, ◌∙◌, arith, List, [], get_or}
use Rattle.std.proofs.lemmas.List.{take_all}
use Rattle.mesh_edges.specs.Edges.{faces_with_edge}
use Rattle.mesh_simplify.proofs.EdgeKeys.{keys_more}
use Rattle.mesh_simplify.proofs.single.keys_of.Goals as goal

pub loop-face-preserved : goal.loop-face-preserved
loop-face-preserved c =
    keys_more c.args.faces.now c.loop-face.face-index c.loop-face.keys.items c.push_face.new.keys.items
    (get_or c.args.faces.now c.loop-face.face-index []) c.loop-face-test.true refl c.loop-face.invariant c.in_ok-push_face.ensures

pub returns : goal.returns
returns c = λ u v a b.
    c.loop-face.invariant u v a b
    ∙ ap (λ (faces : List (List ℕ)). faces_with_edge u v faces)
    (take_all c.loop-face.face-index c.args.faces.now (omega (arith, c.loop-face-test.false)))
