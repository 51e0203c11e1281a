use Rattle.std.proofs.Common.{ap, subst, ◌∙◌, arith, length}
use Rattle.geo_sign.specs.Point.{origin}
use Rattle.scan_rows.proofs.ShownLemmas.{scan_is_shown}
use Rattle.scan_rows.specs.Views.{shown_of}
use Rattle.visibility.specs.Scenes.{Scene}
use Rattle.cell_net.specs.Counts.{AreCountsOf}
use Rattle.solution.proofs.ScanScenes.{points_within, points_apart}
use Rattle.solution.proofs.SightLists.{few_points}
use Rattle.solution.proofs.Stored.{store_is}
use Rattle.solution.proofs.cells.counted_cells_with.Goals as goal

pub build_watched-requires-clause-within : goal.build_watched-requires-clause-within
build_watched-requires-clause-within g c =
    rw (c.deref.ensures.value ∙ c.requires.points)
    (λ k l. points_within (shown_of c.args.scan.now) (scan_is_shown c.args.scan.now) k origin l)

pub build_watched-requires-clause-distinct : goal.build_watched-requires-clause-distinct
build_watched-requires-clause-distinct g c =
    rw (c.deref.ensures.value ∙ c.requires.points) (points_apart (shown_of c.args.scan.now))

pub build_watched-requires-clause-few : goal.build_watched-requires-clause-few
build_watched-requires-clause-few g c =
    omega (arith, ap length c.deref.ensures.value, ap length c.requires.points, few_points c.args.scan.now)

pub counted-requires-clause-cells : goal.counted-requires-clause-cells
counted-requires-clause-cells g c =
    record {
      points =
          rw (c.scene.ensures.points, ← c.requires.points, ← c.deref.ensures.value) c.in_ok-tetra.ensures.points;
      inserted = c.in_ok-tetra.ensures.inserted;
      delaunay = c.in_ok-tetra.ensures.delaunay;
    }

pub returns-clause-counts : goal.returns-clause-counts
returns-clause-counts g c =
    subst
    (λ (s : Scene). AreCountsOf s c.in_ok-tetra.tetra.slots c.in_ok-votes.votes.crossed.items c.in_ok-votes.votes.behind.items
    c.in_ok-votes.votes.fixed.items) c.scene.ensures.scene c.in_ok-votes.ensures.counts

pub returns-clause-store : goal.returns-clause-store
returns-clause-store g c =
    store_is (shown_of c.args.scan.now) c.args.settings c.in_ok-tetra.tetra c.deref.result.now
    (c.deref.ensures.value ∙ c.requires.points) c.in_ok-tetra.ensures.points c.in_ok-tetra.ensures.inserted
    c.in_ok-tetra.ensures.cells c.in_ok-tetra.ensures.partition (returns-clause-counts g c).cells
