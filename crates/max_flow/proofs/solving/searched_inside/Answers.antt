use Rattle.std.proofs.Common.{sym}
use Rattle.max_flow.proofs.Cuts.{levels_of, levels_admissible, levels_least, levels_cost}
use Rattle.max_flow.proofs.Raising.{none_fixed_at_largest}
use Rattle.max_flow.proofs.solving.searched_inside.Goals as goal

pub returns-clause-least : goal.returns-clause-least
returns-clause-least g c =
    let search = c.in_ok-search.search in
    let complete = c.in_ok-search.ensures in
    let are = levels_of (g.N.FlowNetwork.numbered c.args.net.now) c.args.flow.now search complete in
    let none = none_fixed_at_largest (g.N.FlowNetwork.numbered c.args.net.now) c.args.flow.now search c.requires complete.tree in
    rw c.from.ensures (levels_least (g.N.FlowNetwork.numbered c.args.net.now) c.args.flow.now search.marked.items search.level.items c.requires.valid are
    (levels_admissible (g.N.FlowNetwork.numbered c.args.net.now) c.args.flow.now search.marked.items search.level.items are none))

pub returns-clause-cost : goal.returns-clause-cost
returns-clause-cost g c =
    let search = c.in_ok-search.search in
    let complete = c.in_ok-search.ensures in
    let are = levels_of (g.N.FlowNetwork.numbered c.args.net.now) c.args.flow.now search complete in
    let none = none_fixed_at_largest (g.N.FlowNetwork.numbered c.args.net.now) c.args.flow.now search c.requires complete.tree in
    rw c.from.ensures
    (sym (levels_cost (g.N.FlowNetwork.numbered c.args.net.now) c.args.flow.now search.marked.items search.level.items c.requires.valid are
    (levels_admissible (g.N.FlowNetwork.numbered c.args.net.now) c.args.flow.now search.marked.items search.level.items are none)))
