use Rattle.std.proofs.Common.{◌≡◌, vec_len}
use Rattle.cell_net.specs.Parts.{number_of_side}
use Rattle.votes.specs.Tables.{AreNumberedTo}
use Rattle.votes.proofs.tables.arc_numbers.Given as goal

abbrev pub invariant-loop-arc : goal.invariant-loop-arc
invariant-loop-arc l = (vec_len l.table ≡ l.count) × AreNumberedTo number_of_side l.sides l.table.items l.arc
