use Rattle.std.proofs.Common.{ℕ, ◌≡◌, ◌<◌, ◌^◌, List, length, sym, subst, ap, arith}
use Rattle.mesh_edges.specs.Sets.{IsMerge}
use Rattle.mesh_edges.specs.HalfEdges.{start, around}
use Rattle.mesh_edges.proofs.Corners.{around_within, around_start}
use Rattle.mesh_edges.proofs.Labels.{merged_more}
use Rattle.mesh_edges.proofs.umbrellas.merge_around.Goals as goal

pub merge-requires-clause-other : goal.merge-requires-clause-other
merge-requires-clause-other c =
    let inside = around_within (2 ^ 32) c.args.faces.now c.requires.each c.args.twins.now c.requires.paired c.loop-h.h c.loop-h-test.true in
    omega (arith, c.around.ensures, inside, c.loop-h.invariant.count)

pub loop-h-preserved : goal.loop-h-preserved
loop-h-preserved c =
    let parents = c.loop-h.sets.parents.items in
    let new = c.merge.new.self.parents.items in
    merged_more c.args.faces.now c.args.twins.now parents new c.loop-h.h
    (around_start (2 ^ 32) c.args.faces.now c.requires.each c.args.twins.now c.requires.paired c.loop-h.h c.loop-h-test.true)
    c.loop-h.invariant
    (subst (λ (k : ℕ). IsMerge c.loop-h.h k parents new) c.around.ensures c.merge.ensures)
