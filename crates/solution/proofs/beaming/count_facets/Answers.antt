use Rattle.std.proofs.Common.{◌≡◌, ◌<◌, ◌+◌, ◌*◌, ◌^◌, ◌∙◌, ap, arith, List, map, slice_index}
use Rattle.std.proofs.lemmas.List.{get_or_default}
use Rattle.std.specs.List.{sum_by}
use Rattle.std.proofs.lemmas.List.Elements.{All-same}
use Rattle.geo_sign.specs.Point.{Point, origin}
use Rattle.std.specs.Prelude.{slice_index_or}
use Rattle.beam.specs.declared.ways.Ray.{Ray}
use Rattle.beam.specs.Ways.{IsRayIn}
use Rattle.beam.specs.Beams.{weight_on}
use Rattle.solution.specs.LongSights.{ray_of, crossing_weight}
use Rattle.solution.proofs.LongSights.{rays_in, facets_of}
use Rattle.solution.proofs.beaming.count_facets.Goals as goal

pub count-requires-clause-rays : goal.count-requires-clause-rays
count-requires-clause-rays c =
    let w = c.args.located.now in
    All-same (IsRayIn w.t.now) c.in_ok-rays.rays.items _ c.in_ok-rays.ensures
    (rays_in w.t.now w.scanners.now c.args.sights.now c.requires.sights.in_range)

pub count-requires-clause-room : goal.count-requires-clause-room
count-requires-clause-room c id k m b =
    let a = c.args in let w = a.located.now in let s = w.t.now in
    let scanner = slice_index_or w.scanners.now a.number c.index-located-k.result in
    let at = get_or_default w.scanners.now a.number c.index-located-k.result origin c.requires.scanner in
    let room = c.requires.room id k m b in
    let same : sum_by (weight_on s scanner id k) c.in_ok-rays.rays.items
    ≡ crossing_weight s w.scanners.now id k a.sights.now =
    ap (λ (rs : List Ray). sum_by (weight_on s scanner id k) rs) c.in_ok-rays.ensures
    ∙ (ap (λ (o : Point). sum_by (weight_on s o id k) (map (ray_of s) a.sights.now)) at
    ∙ facets_of s w.scanners.now a.number id k a.sights.now c.requires.same) in
    let fits : slice_index a.crossed.now (4 * id + k) + sum_by (weight_on s scanner id k) c.in_ok-rays.rays.items
    < 2 ^ 32 = omega (arith, room, same) in
    fits

pub returns-clause-added : goal.returns-clause-added
returns-clause-added c id k m b =
    let a = c.args in let w = a.located.now in let s = w.t.now in
    let scanner = slice_index_or w.scanners.now a.number c.index-located-k.result in
    let at = get_or_default w.scanners.now a.number c.index-located-k.result origin c.requires.scanner in
    let added : slice_index c.count.new.crossed (4 * id + k)
    ≡ slice_index a.crossed.now (4 * id + k) + sum_by (weight_on s scanner id k) c.in_ok-rays.rays.items =
    c.in_ok-count.ensures.added id k m b in
    let same : sum_by (weight_on s scanner id k) c.in_ok-rays.rays.items
    ≡ crossing_weight s w.scanners.now id k a.sights.now =
    ap (λ (rs : List Ray). sum_by (weight_on s scanner id k) rs) c.in_ok-rays.ensures
    ∙ (ap (λ (o : Point). sum_by (weight_on s o id k) (map (ray_of s) a.sights.now)) at
    ∙ facets_of s w.scanners.now a.number id k a.sights.now c.requires.same) in
    omega (arith, added, same)
