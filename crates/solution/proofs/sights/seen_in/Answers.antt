use Rattle.std.proofs.Common.{ap, ◌∙◌, arith, length}
use Rattle.merge.specs.Merging.{distinct_points, index_among}
use Rattle.std.proofs.Common.{List, map}
use Rattle.geo_sign.specs.Point.{Point}
use Rattle.solution.proofs.sights.seen_in.Goals as goal

pub merge-requires : goal.merge-requires
merge-requires c = omega (arith, ap length c.deref.ensures.value, c.args.scan.now.points_fit)

pub sights_of-requires : goal.sights_of-requires
sights_of-requires c =
    c.deref-2.ensures.value ∙ c.in_ok-merged.ensures.of_row
    ∙ ap (λ (points : List Point). map (index_among (distinct_points points)) points) c.deref.ensures.value

pub returns-clause-points : goal.returns-clause-points
returns-clause-points c = c.in_ok-merged.ensures.points ∙ ap distinct_points c.deref.ensures.value
