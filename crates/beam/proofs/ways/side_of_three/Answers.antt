use Rattle.std.proofs.Common.{◌≢◌}
use Rattle.sight.proofs.Exits.{yes, no}
use Rattle.beam.proofs.Sides.{before_ray}
use Rattle.beam.proofs.ways.side_of_three.Goals as goal

pub returns-else-is_before-2 : goal.returns-else-is_before-2
returns-else-is_before-2 c =
    let h = c.requires.triple in let k = h.planes.1 in let r = c.args.ray.now in let w = c.args.triple.now in
    let other : r.vertex ≢ w.vertex = c.if-ray-triple.false in
    h.third r.vertex c.requires.on (
      other,
      yes (before_ray c.args.t.now c.args.s r w.first c.requires.ray k.0 _ c.if-is_before.ensures),
      no (before_ray c.args.t.now c.args.s r w.second c.requires.ray k.1 _ c.if-is_before-2.ensures),
    )

pub returns-then-is_before-3 : goal.returns-then-is_before-3
returns-then-is_before-3 c =
    let h = c.requires.triple in let k = h.planes.1 in let r = c.args.ray.now in let w = c.args.triple.now in
    let other : r.vertex ≢ w.vertex = c.if-ray-triple.false in
    h.second r.vertex c.requires.on (
      other,
      no (before_ray c.args.t.now c.args.s r w.first c.requires.ray k.0 _ c.if-is_before.ensures),
      yes (before_ray c.args.t.now c.args.s r w.third c.requires.ray k.2 _ c.if-is_before-3.ensures),
    )

pub returns-else-is_before-3 : goal.returns-else-is_before-3
returns-else-is_before-3 c =
    let h = c.requires.triple in let k = h.planes.1 in let r = c.args.ray.now in let w = c.args.triple.now in
    let other : r.vertex ≢ w.vertex = c.if-ray-triple.false in
    h.first_too r.vertex c.requires.on (
      other,
      no (before_ray c.args.t.now c.args.s r w.first c.requires.ray k.0 _ c.if-is_before.ensures),
      no (before_ray c.args.t.now c.args.s r w.third c.requires.ray k.2 _ c.if-is_before-3.ensures),
    )
