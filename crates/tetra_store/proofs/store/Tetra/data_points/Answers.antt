use Rattle.std.proofs.Common.{◌++◌, List, sym, ap, ◌∙◌}
use Rattle.geo_sign.specs.Point.{Point}
use Rattle.geo_sign.specs.Vertices.{corners}
use Rattle.tetra_store.specs.Store.{Store}
use Rattle.tetra_store.proofs.DataPoints.{corners_first, from_eighth}
use Rattle.tetra_store.proofs.Observed.{store_now}
use Rattle.tetra_store.proofs.store.Tetra.data_points.Goals as goal

pub returns-clause-points : goal.returns-clause-points
returns-clause-points c =
    let s = c.args.self.now in
    corners_first s (store_now _ s c.self.view_is c.self.invariant)
    ∙ ap (λ (list : List Point). corners ++ list)
    (sym (from_eighth c.deref.result.now s.points (c.deref.ensures.value ∙ ap (λ (t : Store). t.points) c.self.view_is)))
