use Rattle.std.proofs.Common.{ℕ, ◌≡◌, ◌∙◌, ap, arith, List, take}
use Rattle.std.proofs.lemmas.List.{take_all}
use Rattle.mesh.specs.Meshes.{is_used}
use Rattle.mesh.proofs.Vertices.{marks_are}
use Rattle.mesh.proofs.facets.vertex_marks.Goals as goal

pub returns : goal.returns
returns c =
    let facets = c.args.facets.now in
    let all : take c.loop-facet.facet-index facets ≡ facets = take_all c.loop-facet.facet-index facets (omega arith) in
    marks_are facets c.loop-facet.marks.items c.args.count c.loop-facet.invariant.0
    (λ v l. c.loop-facet.invariant.1 v l ∙ ap (λ (t : List (List ℕ)). is_used t v) all)
