use Rattle.std.proofs.Common.{◌≡◌, map, take}
use Rattle.votes.specs.Tables.{arc_from}
use Rattle.votes.proofs.arcs.arcs_with.Given as goal

abbrev pub invariant-loop-side : goal.invariant-loop-side
invariant-loop-side l =
    l.arcs
    ≡ map (arc_from l.t.slots l.tables.nodes.now l.tables.numbers.now l.tables.crossed.now l.tables.fixed.now l.settings)
    (take l.side-index l.sides)
