use Rattle.std.proofs.Common.{sym, subst, List}
use Rattle.std.specs.List.Sorted.{IsNonDecreasingBy}
use Rattle.cell_net.specs.declared.rows.Row.{Row}
use Rattle.cell_net.specs.Gathered.{key_of_row}
use Rattle.votes.proofs.network.assemble.Goals as goal

pub network_over-requires-clause-rows_rise : goal.network_over-requires-clause-rows_rise
network_over-requires-clause-rows_rise c =
    subst (λ (rows : List Row). IsNonDecreasingBy key_of_row rows) (sym c.deref.ensures.value) c.in_ok-rows.ensures.sorted
