use Rattle.std.proofs.Common.{ℕ, ◌<◌, ◌∙◌, ap, subst, sym, arith, Option, false}
use Rattle.max_flow.specs.declared.spread.Spread.{Spread}
use Rattle.max_flow.proofs.ChainLemmas.{left_of, left_of-falls}
use Rattle.max_flow.proofs.ExploreLemmas.{before_read}
use Rattle.max_flow.proofs.spread.Spread.reach.Goals as goal
use Rattle.max_flow.proofs.spread.Spread.reach.Goals.{in-Some-node_before+then-not-index}
use Rattle.max_flow.proofs.spread.Spread.reach.Goals.{in-Some-node_before+else-not-index, in_default-node_before}

pub loop-next-smaller : goal.loop-next-smaller
loop-next-smaller g c =
    let arc_in = c.loop-next.invariant.below c.in-Some.arc c.in-Some.is in
    let last = before_read (g.N.FlowNetwork.numbered c.args.net.now) false c.args.leaving.now c.in-Some.arc c.index-next-in-Some.result.now
    c.requires.leaving arc_in c.index-next-in-Some.ensures in
    let less = left_of-falls c.index-next-in-Some.result.now c.in-Some.arc last.below in
    subst (λ (o : Option ℕ). left_of c.index-next-in-Some.result.now < left_of o) (sym c.in-Some.is) less

pub loop-next-preserved : goal.loop-next-preserved
loop-next-preserved g c =
    let arc_in = c.loop-next.invariant.below c.in-Some.arc c.in-Some.is in
    let last = before_read (g.N.FlowNetwork.numbered c.args.net.now) false c.args.leaving.now c.in-Some.arc c.index-next-in-Some.result.now
    c.requires.leaving arc_in c.index-next-in-Some.ensures in
    record {
      nodes =
          elim c.match-node_before.branch [
            | in-Some-node_before+then-not-index w ↦
                ap (λ (s : Spread). s.nodes) w.self-is ∙ w.mark.ensures ∙ c.loop-next.invariant.nodes
            | in-Some-node_before+else-not-index w ↦ ap (λ (s : Spread). s.nodes) w.self-is ∙ c.loop-next.invariant.nodes
            | in_default-node_before w ↦ ap (λ (s : Spread). s.nodes) w.self-is ∙ c.loop-next.invariant.nodes
          ];
      below = λ k e. omega (arith, last.below k e, arc_in);
    }
