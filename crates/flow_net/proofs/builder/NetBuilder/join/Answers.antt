-- The arcs are those before with an arc and its reverse behind them.
use Rattle.std.proofs.Common.{rules, arith, subst, sym, ◌≡◌, List}
use Rattle.flow_net.specs.declared.Arc.{Arc}
use Rattle.flow_net.specs.Nets.{AreValidArcs}
use Rattle.flow_net.specs.Builders.{Parts, with_join}
use Rattle.flow_net.proofs.BuilderLemmas.{join_fits}
use Rattle.flow_net.proofs.builder.NetBuilder.join.Goals as goal

pub invariant_of-self-2 : goal.invariant_of-self-2
invariant_of-self-2 c =
    let parts : Parts =
    record { fixed = c.self.inside.fixed.items; sink = c.self.inside.sink.items; arcs = c.self.inside.arcs.items } in
    let is : c.extend_from_slice.new.self.items ≡ (with_join parts c.args.from c.args.to c.args.cap c.args.back_cap).arcs =
    grind arith in
    record {
      sink_count = c.self.invariant.sink_count;
      sinks_fit = c.self.invariant.sinks_fit;
      valid_arcs = subst (λ (arcs : List Arc). AreValidArcs parts.fixed arcs) (sym is)
          (join_fits parts c.args.from c.args.to c.args.cap c.args.back_cap c.self.invariant.valid_arcs (search rules)
          (search rules) (search rules) (search rules) (search rules));
    }
