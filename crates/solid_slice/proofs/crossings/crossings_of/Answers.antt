use Rattle.std.proofs.Common.{ℕ, ◌<◌, arith, List, [], length, ap}
use Rattle.mesh_edges.proofs.EdgeCounts.{each_among}
use Rattle.solid_slice.proofs.Crossed.{crossings_more}
use Rattle.solid_slice.proofs.crossings.crossings_of.Goals as goal

pub loop-number-preserved : goal.loop-number-preserved
loop-number-preserved c =
    let l : c.loop-number.number < length c.args.mesh.now.faces.items =
    omega (arith, ap (λ (t : List (List ℕ)). length t) c.deref-face-items.ensures.value) in
    crossings_more c.args.mesh.now.points.items c.deref.result.now c.deref-in-loop-number.result.now c.args.mesh.now.faces.items
    c.deref-face-items.result.now _ c.loop-number.number _ _ _ _ c.up_edge-up.result c.down_edge-down.result
    c.deref.ensures.value c.deref-in-loop-number.ensures.value c.deref-face-items.ensures.value
    (each_among (length c.args.mesh.now.points.items) c.args.mesh.now.faces.items c.requires.few_points c.requires.each
    c.loop-number.number [] l)
    c.up_edge-up.ensures.some c.up_edge-up.ensures.none c.down_edge-down.ensures.some c.down_edge-down.ensures.none
    c.in_ok-push_crossing.ensures c.in_ok-push_crossing-2.ensures c.loop-number.invariant
