use Rattle.std.proofs.Common.{List, ℕ, sym, subst}
use Rattle.solution.specs.Counts.{AreScannerCells}
use Rattle.solution.proofs.Scenes.{all_asked, sights_in_range}
use Rattle.solution.proofs.counting.counted.Goals as goal

pub counts_of-requires-clause-sights : goal.counts_of-requires-clause-sights
counts_of-requires-clause-sights g c =
    record {
      delaunay = c.requires.cells.delaunay;
      in_range = sights_in_range c.args.t.now c.args.scene.now c.facts.ensures c.requires.cells c.requires.scene;
      data_points = c.requires.scene.data_points;
      cells =
          subst (λ (xs : List ℕ). AreScannerCells c.args.t.now c.args.scene.now.scanners.now xs) (sym c.deref-2.ensures.value)
          c.in_ok-cells.ensures;
    }

pub returns-clause-counts : goal.returns-clause-counts
returns-clause-counts g c =
    all_asked c.args.t.now c.args.scene.now c.facts.ensures c.requires.cells c.requires.scene c.in_ok-counts.counts.crossed.items
    c.in_ok-counts.counts.behind.items c.in_ok-fixed.fixed.items c.in_ok-counts.ensures c.in_ok-fixed.ensures.count
    c.in_ok-fixed.ensures.at
