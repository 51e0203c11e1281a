use Rattle.std.proofs.Common.{sym, subst, arith, List}
use Rattle.std.specs.List.Sorted.{IsNonDecreasingBy}
use Rattle.std.proofs.lemmas.Grind.{common_steps}
use Rattle.cell_net.specs.declared.sides.Side.{Side}
use Rattle.cell_net.specs.Gathered.{key_of_side}
use Rattle.votes.proofs.sides.sorted_sides.Goals as goal

pub returns-clause-sorted : goal.returns-clause-sorted
returns-clause-sorted c =
    subst (λ (x : List Side). IsNonDecreasingBy key_of_side x) (sym (grind (arith, common_steps))) c.sort_sides.ensures.sorted
