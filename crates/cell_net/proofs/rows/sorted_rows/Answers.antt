use Rattle.std.proofs.Common.{sym, subst, arith, List}
use Rattle.std.specs.List.Sorted.{IsNonDecreasingBy}
use Rattle.std.proofs.lemmas.Grind.{common_steps}
use Rattle.cell_net.specs.declared.rows.Row.{Row}
use Rattle.cell_net.specs.Gathered.{key_of_row}
use Rattle.cell_net.proofs.rows.sorted_rows.Goals as goal

pub returns-clause-sorted : goal.returns-clause-sorted
returns-clause-sorted c =
    subst (λ (x : List Row). IsNonDecreasingBy key_of_row x) (sym (grind (arith, common_steps))) c.sort_rows.ensures.sorted
