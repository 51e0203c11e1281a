use Rattle.max_flow.specs.Levels.{AreLeading, IsClosedBelow}
use Rattle.max_flow.proofs.levels.look_at_all.Given as goal

abbrev pub invariant-loop-number : goal.invariant-loop-number
invariant-loop-number g l = record {
  leads : AreLeading (g.N.FlowNetwork.numbered l.net) l.flow l.marked l.level l.leads.items;
  closed : IsClosedBelow (g.N.FlowNetwork.numbered l.net) l.flow l.marked l.number;
}
