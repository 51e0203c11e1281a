use Rattle.std.proofs.Common.{◌≡◌}
use Rattle.plain_net.specs.CutRows.{cut_rows}
use Rattle.plain_net.proofs.boundary.cut.Given as goal

abbrev pub invariant-loop-index : goal.invariant-loop-index
invariant-loop-index l = l.list.items ≡ cut_rows l.index l.arcs l.inside l.facets
