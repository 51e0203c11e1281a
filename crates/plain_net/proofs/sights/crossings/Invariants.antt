use Rattle.std.proofs.Common.{◌≡◌, take}
use Rattle.geo_sign.specs.Sights.{is_crossed}
use Rattle.visibility.specs.SceneViews.{view_of}
use Rattle.visibility.specs.Scenes.{scanner_point}
use Rattle.flow_net.specs.Weights.{weight_where}
use Rattle.plain_net.proofs.sights.crossings.Given as goal

abbrev pub invariant-loop-sight : goal.invariant-loop-sight
invariant-loop-sight l =
    let s = view_of l.scene in
    l.total ≡ weight_where
    (λ sight. is_crossed s.vertices sight.vertex (scanner_point s.scanners sight.scanner) l.facet)
    (take l.sight-index s.sights)
