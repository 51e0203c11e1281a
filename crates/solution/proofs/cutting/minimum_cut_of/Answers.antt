use Rattle.std.proofs.Common.{◌∙◌, sym, subst, arith}
use Rattle.scan_rows.proofs.ShownLemmas.{scan_is_shown}
use Rattle.scan_rows.specs.Views.{shown_of}
use Rattle.solution.specs.Scans.{scene_of_scan}
use Rattle.tetra_store.specs.Store.{Store}
use Rattle.visibility.specs.Scenes.{Scene}
use Rattle.cell_net.specs.Counts.{AreCountsOf}
use Rattle.solution.specs.MinimumCuts.{IsCutOf}
use Rattle.solution.proofs.CellCuts.{cut_is, cost_fits}
use Rattle.solution.proofs.CountLists.{counts_are}
use Rattle.solution.proofs.cutting.minimum_cut_of.Goals as goal

pub overflow_cast-cost : goal.overflow_cast-cost
overflow_cast-cost g c =
    let s : Scene = scene_of_scan (shown_of c.args.scan.now) c.args.settings in
    let n = c.new-net.result in
    let asked : AreCountsOf s n.tetra.now.slots n.counts.crossed.now n.counts.behind.now n.counts.fixed.now =
    counts_are s c.args.tetra.now n.tetra.now c.args.votes.crossed.items c.args.votes.behind.items n.counts.crossed.now
    n.counts.behind.now c.args.votes.fixed.items n.counts.fixed.now c.requires.counts c.new-net.ensures.tetra
    (c.new-net.ensures.crossed ∙ c.store_counts.ensures.crossed) (c.new-net.ensures.behind ∙ c.store_counts.ensures.behind)
    (c.new-net.ensures.fixed ∙ c.store_counts.ensures.fixed) in
    let is =
    cut_is s n.tetra.now.slots n.counts.crossed.now n.counts.behind.now n.counts.fixed.now n.settings asked n.shape
    (sym c.new-net.ensures.settings) c.in_ok-flow.flow c.in_ok-flow.labels c.cost-cost.result c.in_ok-flow.ensures.valid
    c.in_ok-flow.ensures.least c.in_ok-flow.ensures.cost c.cost-cost.ensures.sum in
    let few = cost_fits (shown_of c.args.scan.now) c.args.settings n.tetra.now.slots _ (scan_is_shown c.args.scan.now) is in
    omega (arith, few)

pub returns : goal.returns
returns g c =
    let s : Scene = scene_of_scan (shown_of c.args.scan.now) c.args.settings in
    let n = c.new-net.result in
    let asked : AreCountsOf s n.tetra.now.slots n.counts.crossed.now n.counts.behind.now n.counts.fixed.now =
    counts_are s c.args.tetra.now n.tetra.now c.args.votes.crossed.items c.args.votes.behind.items n.counts.crossed.now
    n.counts.behind.now c.args.votes.fixed.items n.counts.fixed.now c.requires.counts c.new-net.ensures.tetra
    (c.new-net.ensures.crossed ∙ c.store_counts.ensures.crossed) (c.new-net.ensures.behind ∙ c.store_counts.ensures.behind)
    (c.new-net.ensures.fixed ∙ c.store_counts.ensures.fixed) in
    subst (λ (t : Store). IsCutOf s t.slots (record { labels = c.in_ok-flow.labels; flow = c.in_ok-flow.flow; cost = c.cost-cost.result }))
    c.new-net.ensures.tetra
    (cut_is s n.tetra.now.slots n.counts.crossed.now n.counts.behind.now n.counts.fixed.now n.settings asked n.shape
    (sym c.new-net.ensures.settings) c.in_ok-flow.flow c.in_ok-flow.labels c.cost-cost.result c.in_ok-flow.ensures.valid
    c.in_ok-flow.ensures.least c.in_ok-flow.ensures.cost c.cost-cost.ensures.sum)
