use Rattle.std.proofs.Common.{ℕ, ◌≡◌, ◌<◌, ◌≤◌, ◌^◌, ◌∙◌, List, length, get_or, sym, subst, ap, arith}
use Rattle.mesh_edges.specs.HalfEdges.{around}
use Rattle.mesh_edges.specs.Umbrellas.{AreFanLabels}
use Rattle.mesh_edges.proofs.Corners.{around_within}
use Rattle.mesh_edges.proofs.Labels.{merged_none, merged_labels}
use Rattle.mesh_edges.proofs.umbrellas.labels_of.Goals as goal

pub merge_around-requires-clause-apart : goal.merge_around-requires-clause-apart
merge_around-requires-clause-apart c =
    merged_none c.args.faces.now c.args.twins.now c.in_ok-sets.sets.parents.items c.in_ok-sets.ensures.count c.in_ok-sets.ensures.apart

pub returns-clause-labels : goal.returns-clause-labels
returns-clause-labels c =
    subst (λ (ls : List ℕ). AreFanLabels c.args.faces.now c.args.twins.now ls)
    (sym (c.in_ok-labels.ensures ∙ c.deref.ensures.value))
    (merged_labels c.args.faces.now c.args.twins.now c.merge_around.new.sets.parents.items c.in_ok-firsts.firsts.items
    (around_within (2 ^ 32) c.args.faces.now c.requires.each c.args.twins.now c.requires.paired) c.merge_around.ensures
    c.in_ok-firsts.ensures.count c.in_ok-firsts.ensures.tops)
