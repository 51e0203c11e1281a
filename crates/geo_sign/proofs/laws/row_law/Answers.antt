use Rattle.geo_sign.proofs.RowLaws.{rows_exist, rows_are_written, rows_are_kept, rows_tell, cells_are_rows, written_facets}
use Rattle.geo_sign.proofs.laws.row_law.Goals as goal

pub returns-clause-exist : goal.returns-clause-exist
returns-clause-exist c = rows_exist

pub returns-clause-written : goal.returns-clause-written
returns-clause-written c = rows_are_written

pub returns-clause-kept : goal.returns-clause-kept
returns-clause-kept c = rows_are_kept

pub returns-clause-tell : goal.returns-clause-tell
returns-clause-tell c = rows_tell

pub returns-clause-cells : goal.returns-clause-cells
returns-clause-cells c = cells_are_rows

pub returns-clause-least_first : goal.returns-clause-least_first
returns-clause-least_first c = written_facets
