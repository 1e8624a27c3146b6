use Rattle.slicc_ast.proofs.InARow.{derives_in_a_row, begins_in_a_row}
use Rattle.slicc_ast.proofs.table_laws.rows_are_in_a_row.Goals as goal

pub returns : goal.returns
returns g c = record { derived = derives_in_a_row; begun = begins_in_a_row }
