use Rattle.std.proofs.Common.{◌≡◌, map, take}
use Rattle.cell_net.specs.Parts.{facet_of_side}
use Rattle.votes.proofs.network.facets_of.Given as goal

abbrev pub invariant-loop-side : goal.invariant-loop-side
invariant-loop-side l = l.facets.items ≡ map facet_of_side (take l.side-index l.fn.sides.items)
