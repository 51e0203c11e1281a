-- The scene is that of the store's data points: the store has its cells, and its sights are in range where those of the store are. Its view
-- is the scene that the clause names, since the store's data points are those that the store is seen to have.
use Rattle.std.proofs.Common.{List, ◌<◌, ◌+◌, ap, arith, length}
use Rattle.std.proofs.lemmas.List.Elements.{All-weaker}
use Rattle.geo_sign.specs.declared.point.TheConstants.{CORNERS}
use Rattle.geo_sign.specs.Point.{Point}
use Rattle.geo_sign.proofs.Corners.{vertex_count}
use Rattle.flow_net.specs.declared.votes.Sight.{Sight}
use Rattle.visibility.specs.SceneViews.{IsSightOf}
use Rattle.tetra_store.specs.Store.{vertices_of}
use Rattle.solution.specs.Counts.{IsInRange}
use Rattle.votes.proofs.counting.count_votes.Goals as goal

pub counted-requires-clause-cells : goal.counted-requires-clause-cells
counted-requires-clause-cells c = record {
  points = c.data_points.ensures.points;
  inserted = c.requires.inserted;
  delaunay = c.requires.delaunay;
}

pub counted-requires-clause-scene : goal.counted-requires-clause-scene
counted-requires-clause-scene c =
    let points : List Point = c.data_points.result.now in
    let scanners : List Point = c.args.scanners.now in
    let in_range : (sight : Sight) → IsInRange (vertices_of c.args.t.now) scanners sight → IsSightOf points scanners sight =
    λ sight h.
    (let below = h.inserted.0 in
    let vertex : sight.vertex < CORNERS + length points =
    omega (arith, below, ap length c.data_points.ensures.points, vertex_count points) in
    record { data_vertex = h.data_vertex; vertex = vertex; scanner = h.scanner }) in
    record {
      sights =
          All-weaker (IsInRange (vertices_of c.args.t.now) scanners) (IsSightOf points scanners) in_range c.args.sights.now
          c.requires.sights;
      few_sights = c.requires.few;
      data_points = c.requires.scanners;
    }
