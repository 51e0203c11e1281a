use Rattle.std.proofs.Common.{◌≡◌, vec_len}
use Rattle.cell_net.specs.Parts.{id_of_row}
use Rattle.votes.specs.Tables.{AreNumberedTo}
use Rattle.votes.proofs.tables.node_numbers.Given as goal

abbrev pub invariant-loop-node : goal.invariant-loop-node
invariant-loop-node l = (vec_len l.table ≡ l.count) × AreNumberedTo id_of_row l.rows l.table.items l.node
