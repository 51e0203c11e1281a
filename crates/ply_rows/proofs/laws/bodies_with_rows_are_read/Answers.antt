use Rattle.ply_rows.proofs.GrammarLaw.{rows_found, rows_read}
use Rattle.ply_rows.proofs.laws.bodies_with_rows_are_read.Goals as goal

pub returns : goal.returns
returns c = record { exactly = λ head body rows. (rows_found head body rows, rows_read head body rows) }
