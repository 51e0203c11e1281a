use Rattle.std.proofs.Common.{ℕ, ◌++◌, ap, sym, ◌∙◌, List, [], ◌∷◌, map}
use Rattle.std.proofs.lemmas.List.{map-append}
use Rattle.mesh.proofs.Vertices.{below_more}
use Rattle.mesh_flips.specs.Orders.{face_number}
use Rattle.mesh_flips.proofs.order.with_keys.Goals as goal

pub loop-f-preserved : goal.loop-f-preserved
loop-f-preserved c =
    ap (map face_number) c.in_ok-push.ensures.items
    ∙ (map-append face_number c.loop-f.list.items _
    ∙ (ap (λ (t : List ℕ). t ++ c.loop-f.f ∷ []) c.loop-f.invariant ∙ sym (below_more c.loop-f.f)))
