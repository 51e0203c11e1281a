use Rattle.std.proofs.Common.{arith, subst, ◌∙◌}
use Rattle.flow_net.specs.declared.votes.Settings.{Settings}
use Rattle.visibility.specs.Scenes.{scene_of}
use Rattle.sweep.specs.Entries.{CostsLeast}
use Rattle.sweep.specs.Swept.{Swept, scene_in}
use Rattle.sweep.proofs.Raising.{kept_over}
use Rattle.sweep.proofs.Surfaces.{costs, cost_fits}
use Rattle.sweep.proofs.sweeping.Sweep.cost.Goals as goal

pub overflow_cast-result : goal.overflow_cast-result
overflow_cast-result c =
    let n = c.new-net.result in
    let e = c.new-net.ensures in
    let counts = c.store_counts.ensures in
    let there =
    kept_over _ _ _ _ n.settings _ n.tetra.now _ n.counts.crossed.now _ n.counts.behind.now _ n.counts.fixed.now _ _ e.settings e.tetra
    (e.crossed ∙ counts.crossed) (e.behind ∙ counts.behind) (e.fixed ∙ counts.fixed) c.self.invariant in
    omega (arith, cost_fits _ _ _ _ _ _ _ _ _ _ there, c.cost.ensures.sum)

pub returns : goal.returns
returns c =
    let n = c.new-net.result in
    let e = c.new-net.ensures in
    let counts = c.store_counts.ensures in
    let there =
    kept_over _ _ _ _ n.settings _ n.tetra.now _ n.counts.crossed.now _ n.counts.behind.now _ n.counts.fixed.now _ _ e.settings e.tetra
    (e.crossed ∙ counts.crossed) (e.behind ∙ counts.behind) (e.fixed ∙ counts.fixed) c.self.invariant in
    let s = c.self.inside in
    subst (λ (w : Swept). CostsLeast (scene_in w) c.cost.result) c.self.view_is
    (subst
    (λ (settings : Settings). CostsLeast (scene_of s.seen.points.items s.scanners.items s.seen.sights.items settings) c.cost.result)
    e.settings (rw c.cost.ensures.sum (costs _ _ _ _ _ _ _ _ _ _ there)))
