-- The network at the new smoothing has the same lists, whatever they are called there (there). The old flow stays valid in it, since
-- capacities only grow (valid_risen), so the cut may be made above it. Where it is made, flow and labels are what the sweep keeps at the
-- new settings (raised). Where memory runs out, all is as it was.
use Rattle.std.proofs.Common.{◌≤◌, ◌∙◌, refl, ap, sym, subst, arith}
use Rattle.flow_net.specs.declared.votes.Settings.{Settings}
use Rattle.sweep.specs.Swept.{Swept, HasLargest}
use Rattle.sweep.proofs.Raising.{kept_over, largest_of, raised, valid_risen}
use Rattle.sweep.proofs.sweeping.Sweep.raise_hinted.Goals as goal

pub minimum_cut_above-requires : goal.minimum_cut_above-requires
minimum_cut_above-requires g c =
    let n = c.new-net.result in
    let e = c.new-net.ensures in
    let counts = c.store_counts.ensures in
    let there =
    kept_over _ _ _ c.self.inside.settings _ _ n.tetra.now _ n.counts.crossed.now _ n.counts.behind.now _ n.counts.fixed.now _ _ refl
    e.tetra (e.crossed ∙ counts.crossed) (e.behind ∙ counts.behind) (e.fixed ∙ counts.fixed) c.self.invariant in
    let le : c.self.inside.settings.smooth ≤ c.args.smooth =
    omega (arith, c.requires.above, ap (λ (w : Swept). w.settings.smooth) c.self.view_is) in
    valid_risen _ _ _ _ _ n.settings there.shape n.shape _ (ap (λ (s : Settings). s.vote) e.settings)
    (omega (arith, le, ap (λ (s : Settings). s.smooth) e.settings)) there.largest.valid

pub invariant_of-self : goal.invariant_of-self
invariant_of-self g c =
    let n = c.new-net.result in
    let e = c.new-net.ensures in
    let counts = c.store_counts.ensures in
    let crossed = e.crossed ∙ counts.crossed in
    let behind = e.behind ∙ counts.behind in
    let fixed = e.fixed ∙ counts.fixed in
    let there =
    kept_over _ _ _ c.self.inside.settings _ _ n.tetra.now _ n.counts.crossed.now _ n.counts.behind.now _ n.counts.fixed.now _ _ refl
    e.tetra crossed behind fixed c.self.invariant in
    kept_over _ _ _ n.settings _ n.tetra.now _ n.counts.crossed.now _ n.counts.behind.now _ n.counts.fixed.now _ _ _ (sym e.settings)
    (sym e.tetra) (sym crossed) (sym behind) (sym fixed)
    (raised _ _ _ _ _ _ _ _ _ _ there n.settings n.shape _ _ c.in_ok-flow.ensures.largest c.in_ok-flow.ensures.least
    c.in_ok-flow.ensures.cost)

pub returns-clause-largest : goal.returns-clause-largest
returns-clause-largest g c = largest_of _ _ _ _ _ _ _ _ _ _ (invariant_of-self g c)

pub returns-in_err-flow-clause-largest : goal.returns-in_err-flow-clause-largest
returns-in_err-flow-clause-largest g c =
    subst (λ (w : Swept). HasLargest w) c.self.view_is (largest_of _ _ _ _ _ _ _ _ _ _ c.self.invariant)
