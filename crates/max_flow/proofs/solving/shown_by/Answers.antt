use Rattle.std.proofs.Common.{sym}
use Rattle.max_flow.proofs.Cuts.{levels_admissible, levels_least, levels_cost}
use Rattle.max_flow.proofs.solving.shown_by.Goals as goal

pub returns-clause-least : goal.returns-clause-least
returns-clause-least g c =
    let levels = c.args.levels in
    let are = rw (c.deref.ensures.value, c.deref-2.ensures.value) at (c.in_ok-are_levels.ensures c.if-not-branch.false) in
    let none = rw c.deref-3.ensures.value at c.in-None.ensures.none in
    rw c.from.ensures (levels_least (g.N.FlowNetwork.numbered c.args.net.now) c.args.flow.now levels.is_found.items levels.level.items c.requires are
    (levels_admissible (g.N.FlowNetwork.numbered c.args.net.now) c.args.flow.now levels.is_found.items levels.level.items are none))

pub returns-clause-cost : goal.returns-clause-cost
returns-clause-cost g c =
    let levels = c.args.levels in
    let are = rw (c.deref.ensures.value, c.deref-2.ensures.value) at (c.in_ok-are_levels.ensures c.if-not-branch.false) in
    let none = rw c.deref-3.ensures.value at c.in-None.ensures.none in
    rw c.from.ensures (sym (levels_cost (g.N.FlowNetwork.numbered c.args.net.now) c.args.flow.now levels.is_found.items levels.level.items c.requires are
    (levels_admissible (g.N.FlowNetwork.numbered c.args.net.now) c.args.flow.now levels.is_found.items levels.level.items are none)))
