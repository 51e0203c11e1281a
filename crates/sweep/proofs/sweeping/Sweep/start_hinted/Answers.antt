-- The store has the scan's points and all cells of its scene, and the counts are those of the scene (counted_cells_with). Points, scanners
-- and sights are copies of the scan's. So all that a sweep keeps holds in the network of these lists, whose names are those of the fields
-- (kept_over), with a largest flow and the least-inside labels.
use Rattle.std.proofs.Common.{sym, subst, ◌∙◌}
use Rattle.flow_net.specs.declared.votes.Settings.{Settings}
use Rattle.scan_rows.proofs.ShownLemmas.{scan_is_shown}
use Rattle.scan_rows.specs.Shown.{Shown}
use Rattle.scan_rows.specs.Views.{shown_of}
use Rattle.solution.specs.Scans.{scene_of_scan}
use Rattle.solution.proofs.CountLists.{counts_are}
use Rattle.cell_net.specs.Counts.{AreCountsOf}
use Rattle.sweep.proofs.Raising.{begun, kept_over, largest_of}
use Rattle.sweep.proofs.sweeping.Sweep.start_hinted.Goals as goal

pub invariant_of-result : goal.invariant_of-result
invariant_of-result g c =
    let scan : Shown = shown_of c.args.scan.now in
    let n = c.new-net.result in
    let e = c.new-net.ensures in
    let crossed = e.crossed ∙ c.store_counts.ensures.crossed in
    let behind = e.behind ∙ c.store_counts.ensures.behind in
    let fixed = e.fixed ∙ c.store_counts.ensures.fixed in
    let made = c.in_ok-tetra in
    let counts : AreCountsOf (scene_of_scan scan n.settings) n.tetra.now.slots n.counts.crossed.now n.counts.behind.now n.counts.fixed.now =
    counts_are (scene_of_scan scan n.settings) made.tetra n.tetra.now made.votes.crossed.items made.votes.behind.items
    n.counts.crossed.now n.counts.behind.now made.votes.fixed.items n.counts.fixed.now
    (subst (λ (s : Settings). AreCountsOf (scene_of_scan scan s) made.tetra.slots made.votes.crossed.items made.votes.behind.items
    made.votes.fixed.items) (sym e.settings) made.ensures.counts) e.tetra crossed behind fixed in
    kept_over _ _ _ n.settings _ n.tetra.now _ n.counts.crossed.now _ n.counts.behind.now _ n.counts.fixed.now _ _ _ (sym e.settings)
    (sym e.tetra) (sym crossed) (sym behind) (sym fixed)
    (begun _ _ _ scan n.settings n.tetra.now _ _ _ _ _ (scan_is_shown c.args.scan.now) c.in_ok-seen.ensures.points
    (c.in_ok-scanners.ensures.items ∙ c.deref.ensures.value) c.in_ok-seen.ensures.sights (rw e.tetra made.ensures.store.points)
    counts n.few n.shape c.in_ok-flow.ensures.largest c.in_ok-flow.ensures.least c.in_ok-flow.ensures.cost)

pub returns-clause-largest : goal.returns-clause-largest
returns-clause-largest g c = largest_of _ _ _ _ _ _ _ _ _ _ (invariant_of-result g c)
